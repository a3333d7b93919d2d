-- How four tables of powers are seen as one.
use Rattle.std.specs.Prelude.{◌≡◌, ◌<◌}
use Rattle.weight_exact.specs.Powers.{PowersOf}
use Rattle.weight_exact.specs.declared.powers.Powers.TheInside.{Inside}

-- the numbers and the budget that four tables serve
abbrev pub served : Inside → PowersOf
served p = record {
  factors = record {
    fail_in = p.fail_in.base;
    fail_out = p.fail_out.base;
    pass_in = p.pass_in.base;
    pass_out = p.pass_out.base;
  };
  budget = p.budget;
}

-- each table goes up to the budget, and only a pass with the culprit in may have the number 0
pub record AreServed (p : Inside) : Type 0 where
  pub fail_in : p.fail_in.limit ≡ p.budget
  pub fail_out : p.fail_out.limit ≡ p.budget
  pub pass_in : p.pass_in.limit ≡ p.budget
  pub pass_out : p.pass_out.limit ≡ p.budget
  pub some_fail_in : 0 < p.fail_in.base
  pub some_fail_out : 0 < p.fail_out.base
  pub some_pass_out : 0 < p.pass_out.base
