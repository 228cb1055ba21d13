-- Demand 3, by the damage theorem of format: what a file call answers is what the walk's lines say.
-- Assumes nothing.
use Prim.Native.Nat.{ℕ}
use mathlib.Core.Path.{◌≡◌, refl, sym, ap, ◌∙◌}
use mathlib.Core.List.{List, [], ◌∷◌}
use native.Mathlib.Omega.{arith}
use lib.ListN.{length}
use denote.Ref.{Bor}
use Rattle.text.specs.Text.{Bytes}
use Rattle.format.specs.Read.{Outcome, read_record}
use Rattle.format.specs.Files as format
use Rattle.format.specs.Files.{read, line_at_over, walk_over}
use Rattle.format.specs.Damage.{WithinTwo, CatchesBy, Caught, AllCaught}
use Rattle.format.proofs.Lines.{at_end, rest, rest_walk}
use Rattle.format.proofs.DamagedLines.{part_same, within_line, damaged_by_two}
use Rattle.format.proofs.Damage.{record_catches_by_two, damage_caught_by}
use Rattle.reading.specs.Reading.{answer_of}
use Rattle.files.specs.declared.Line.{Line}
use Rattle.files.specs.declared.Line.TheVariants.{Finished}
use Rattle.files.specs.Walk.{line_said}
use Rattle.files.proofs.Stepping.{none_left, first_left}
use Rattle.trailed.specs.Trailed.{read_trailed}
use Rattle.trailed.proofs.Trailed.{trailed_within_two, trailed_damage_caught_by}
use Rattle.promises.proofs.Statements.Files.{PlainSays}
use Rattle.promises.proofs.Statements.Trailed.{TrailedSays}
use Rattle.promises.proofs.Statements.Demand3.{Called, none, more, CaughtSaid, AllCaughtSaid, DamageCaughtBy, Demand3}

-- ---- a line of each file

module _ (a b : Bytes) (long : length a ≡ length b) where
  line_caught : (l m : format.Line) → Caught a b l m → CaughtSaid a b (line_said (read l)) (line_said (read m))
  line_caught l m c = record {
    same_start = c.same_start;
    same_size = c.same_size;
    same_next = c.same_next;
    refused_there = λ p h differ z.
        let (n, i, e, no_zero) = c.refused_there p h differ in
        no_zero (sym (ap (λ (o : Outcome). (answer_of o).no) e) ∙ z);
    same_said = λ f. (
      λ i. line_said (read (record { said = c.same_said f i; start = c.same_start i; size = c.same_size i; next = c.same_next i })),
      rw (← c.same_start, ← c.same_size) (part_same l.start l.size a b long (λ p h k. f p (h, k))),
    );
  }

  end_caught : (place : ℕ) → CaughtSaid a b (Finished place) (Finished place)
  end_caught place = record {
    same_start = refl;
    same_size = refl;
    same_next = refl;
    refused_there = λ p (h, k) differ. absurd (omega arith);
    same_said = λ f. (refl, refl);
  }

-- ---- call by call

-- a file call that answers what is said of the line at a place, where `call` is asked about the lines
module _ (call : Bytes → Outcome) (Says : Bor Bytes → ℕ → Line → Type 0) (says : (lent : Bor Bytes) (place : ℕ) (r : Line) → Says lent place r → r ≡ line_said (line_at_over call lent.now place))
    (f g : Bor Bytes) (long : length f.now ≡ length g.now) where
  calls_caught : (place : ℕ) (xs ys : List format.Line) → rest call f.now place ≡ xs → rest call g.now place ≡ ys → AllCaught f.now g.now xs ys
      → (ls ms : List Line) → Called Says f place ls → Called Says g place ms → length ls ≡ length ms → AllCaughtSaid f.now g.now ls ms
  unfolding AllCaught AllCaughtSaid
  calls_caught place xs ys r t c [] [] none none e = tt
  calls_caught place xs ys r t c [] (m ∷ ms) p q e = absurd (omega arith)
  calls_caught place xs ys r t c (l ∷ ls) [] p q e = absurd (omega arith)
  calls_caught place [] [] r t c (l ∷ ls) (m ∷ ms) (more p ps) (more q qs) e =
      let here : l ≡ Finished place = says f place l p ∙ ap line_said (at_end call f.now place (none_left call f.now place r)) in
      let there : m ≡ Finished place = says g place m q ∙ ap line_said (at_end call g.now place (none_left call g.now place t)) in (
        rw (here, there) (end_caught f.now g.now long place),
        calls_caught place [] [] r t c ls ms (rw here at ps) (rw there at qs) (omega (arith, e)),
      )
  calls_caught place [] (y ∷ ys) r t c (l ∷ ls) (m ∷ ms) p q e = elim c [ ]
  calls_caught place (x ∷ xs) [] r t c (l ∷ ls) (m ∷ ms) p q e = elim c [ ]
  calls_caught place (x ∷ xs) (y ∷ ys) r t c (l ∷ ls) (m ∷ ms) (more p ps) (more q qs) e =
      let (is, left) = first_left call f.now place x xs r in
      let (is', left') = first_left call g.now place y ys t in
      let here : l ≡ line_said (read x) = says f place l p ∙ ap line_said is in
      let there : m ≡ line_said (read y) = says g place m q ∙ ap line_said is' in (
        rw (here, there) (line_caught f.now g.now long x y c.0),
        calls_caught x.next xs ys left (rw c.0.same_next left') c.1 ls ms (rw here at ps) (rw (there, ← c.0.same_next) at qs) (omega (arith, e)),
      )

  in_files : AllCaught f.now g.now (walk_over call f.now) (walk_over call g.now) → (ls ms : List Line) → Called Says f 0 ls → Called Says g 0 ms
      → length ls ≡ length ms → AllCaughtSaid f.now g.now ls ms
  in_files = calls_caught 0 (walk_over call f.now) (walk_over call g.now) (rest_walk call f.now) (rest_walk call g.now)

-- what a call catches in a line is caught in the files whose lines it is asked about
pub plain_caught : (Harm : Bytes → Bytes → Type 0) → CatchesBy read_record Harm → DamageCaughtBy read_record Harm PlainSays
plain_caught Harm catches f g d = in_files read_record PlainSays (λ lent place r (κs, (s, p)). p) f g d.long (damage_caught_by Harm catches f.now g.now d)

pub trailed_caught : (Harm : Bytes → Bytes → Type 0) → CatchesBy read_trailed Harm → DamageCaughtBy read_trailed Harm TrailedSays
trailed_caught Harm catches f g d = in_files read_trailed TrailedSays (λ lent place r (κs, (s, p)). p) f g d.long (trailed_damage_caught_by Harm catches f.now g.now d)

pub demand3 : Demand3
demand3 = record {
  in_plain = λ f g d. plain_caught WithinTwo record_catches_by_two f g (damaged_by_two read_record f.now g.now d);
  in_trailed = λ f g d. trailed_caught WithinTwo trailed_within_two f g (damaged_by_two read_trailed f.now g.now d);
  in_file = within_line;
}
