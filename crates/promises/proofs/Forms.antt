-- A contract that does not meet it, for each form of a promise.
-- Assumes nothing.
use mathlib.Core.Path.{subst}
use mathlib.Core.Bool.{Bool}
use native.Mathlib.Omega.{arith}
use lib.Dec.{T}
use Rattle.promises.proofs.Statements.Forms.{Forms}

pub forms : Forms
forms = record {
  takes = λ h. h tt tt;
  holds = λ h. h tt tt 0 0 tt;
  answers = λ h. omega (arith, h tt tt 1 0 tt);
  leaves = λ h. omega (arith, h tt tt 0 1 tt);
  one_answer = λ h. omega (arith, h tt tt 0 1 0 0 tt tt);
  one_in = λ h. omega (arith, h tt tt 0 1 0 0 tt tt);
  one_left = λ h. omega (arith, h tt tt 0 0 0 1 tt tt);
  gives_only = λ h. h tt tt 0 0 tt;
  names_field = λ h. subst (λ (b : Bool). T b) (h tt tt 0 0 tt) tt;
}
