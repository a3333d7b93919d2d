-- What contracts see of an input and an output together.
use Rattle.std.specs.Prelude.{ℕ, List, Option}
use Rattle.link_io.specs.declared.sink.Sink as sink
use Rattle.link_io.specs.declared.source.Source as source

-- the bytes that the input has left and those that the output was given, where they tell, and how often each failed
pub record Streams : Type 0 where
  pub left : Option (List ℕ)
  pub written : Option (List ℕ)
  pub read_faults : ℕ
  pub write_faults : ℕ

-- what is seen of a source and a sink, by the meaning that their types give to them
abbrev pub streams : {S K : Type 0} → source.Ghosts S → sink.Ghosts K → S → K → Streams
streams S K input output = record {
  left = S.left input;
  written = K.written output;
  read_faults = S.count input;
  write_faults = K.count output;
}
