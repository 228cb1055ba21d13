-- No form of a promise is true of everything: for each, a contract that does not meet it. So a form that was made to say nothing has no proof here.
-- Assumes nothing.
use Rattle.std.specs.Prelude.{ℕ, []}
use Rattle.promises.specs.Calls.{Holds, Answers, Leaves}
use Rattle.promises.proofs.Statements.Total.{Takes}
use Rattle.promises.proofs.Statements.Determined.{OneAnswer, OneIn, OneLeft}
use Rattle.promises.proofs.Statements.Refusals.{GivesOnly}
use Rattle.promises.proofs.Statements.FieldNumbers.{NamesField}

abbrev One : Type 0
One = Unit {0}

-- a contract that allows every number as the answer, and any number behind a `&mut` parameter
abbrev pub Anything : One → One → ℕ → ℕ → Type 0
Anything κs a r s = One

pub record Forms : Type 0 where
  pub takes : Takes {K = One} {A = λ κs. One} (λ κs a. ⊥) → ⊥
  pub holds : Holds {K = One} {A = λ κs. One} {R = λ κs. ℕ} {S = λ κs. ℕ} Anything (λ κs a r s. ⊥) → ⊥
  pub answers : Answers {K = One} {A = λ κs. One} {R = λ κs. ℕ} {S = λ κs. ℕ} Anything (λ κs a. 0) → ⊥
  pub leaves : Leaves {K = One} {X = ℕ} {A = λ κs. One} {R = λ κs. ℕ} {S = λ κs. ℕ} Anything (λ κs s. s) (λ κs a. 0) → ⊥
  pub one_answer : OneAnswer {K = One} {A = λ κs. One} {R = λ κs. ℕ} {S = λ κs. ℕ} Anything → ⊥
  pub one_in : OneIn {K = One} {X = ℕ} {A = λ κs. One} {R = λ κs. ℕ} {S = λ κs. ℕ} Anything (λ κs r. r) → ⊥
  pub one_left : OneLeft {K = One} {X = ℕ} {A = λ κs. One} {R = λ κs. ℕ} {S = λ κs. ℕ} Anything (λ κs s. s) → ⊥
  pub gives_only : GivesOnly {K = One} {A = λ κs. One} {R = λ κs. ℕ} {S = λ κs. ℕ} Anything (λ κs r s. r) [] → ⊥
  pub names_field : NamesField {K = One} {A = λ κs. One} {R = λ κs. ℕ} {S = λ κs. ℕ} Anything (λ κs r s. 6) (λ κs r s. 0) → ⊥
