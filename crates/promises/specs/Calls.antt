-- How a promise speaks of a call: of its contract, which the checker makes from the `ensures` in the code and calls `Post`.
-- Assumes nothing.
use Rattle.std.specs.Prelude.{◌≡◌}

-- P holds of the lifetimes, the arguments, the result and what the parameters hold afterwards, whatever of these the contract Q allows
abbrev pub Holds : {K : Type 0} {A R S : K → Type 0} → ((κs : K) → A κs → R κs → S κs → Type 0) → ((κs : K) → A κs → R κs → S κs → Type 0) → Type 0
Holds {K} {A} {R} {S} Q P = (κs : K) (a : A κs) (r : R κs) (s : S κs) → Q κs a r s → P κs a r s

-- the answer is f of the arguments
abbrev pub Answers : {K : Type 0} {A R S : K → Type 0} → ((κs : K) → A κs → R κs → S κs → Type 0) → ((κs : K) → A κs → R κs) → Type 0
Answers {K} {A} {R} {S} Q f = (κs : K) (a : A κs) (r : R κs) (s : S κs) → Q κs a r s → r ≡ f κs a

-- and what stands behind a `&mut` parameter afterwards, which `left` picks
abbrev pub Leaves : {K X : Type 0} {A R S : K → Type 0} → ((κs : K) → A κs → R κs → S κs → Type 0) → ((κs : K) → S κs → X) → ((κs : K) → A κs → X) → Type 0
Leaves {K} {X} {A} {R} {S} Q left f = (κs : K) (a : A κs) (r : R κs) (s : S κs) → Q κs a r s → left κs s ≡ f κs a

-- the contract Q allows the answer r for the arguments a, with some lifetimes and some contents of the parameters afterwards
abbrev pub Allows : {K : Type 0} {A R S : K → Type 0} → ((κs : K) → A κs → R κs → S κs → Type 0) → ((κs : K) → A κs) → ((κs : K) → R κs) → Type 0
Allows {K} {A} {R} {S} Q a r = (κs : K) × ((s : S κs) × Q κs (a κs) (r κs) s)

-- a call was made of which P holds
abbrev pub SomeCall : {K : Type 0} {A R S : K → Type 0} → ((κs : K) → A κs → R κs → S κs → Type 0) → ((κs : K) → A κs → R κs → S κs → Type 0) → Type 0
SomeCall {K} {A} {R} {S} Q P = (κs : K) × ((a : A κs) × ((r : R κs) × ((s : S κs) × (Q κs a r s × P κs a r s))))
