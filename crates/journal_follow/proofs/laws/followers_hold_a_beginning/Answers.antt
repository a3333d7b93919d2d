use Rattle.journal_follow.proofs.Beginnings.{all-grows, all-sound, founded-sound, sound-history}
use Rattle.journal_follow.proofs.laws.followers_hold_a_beginning.Goals as goal

pub returns : goal.returns
returns c = record {
  history = λ settings at all w h. sound-history w (all-sound _ all w (founded-sound settings at) h);
  pending = λ settings at all w h. (all-sound _ all w (founded-sound settings at) h).begins;
  grows = λ w later all h. all-grows w all later h;
}
