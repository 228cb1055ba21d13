-- The promises about manufacturers' record files, from the laws of trailed.
-- Assumes nothing.
use Prim.Native.Nat.{ℕ}
use mathlib.Core.Path.{◌≡◌, refl, sym, ap, ◌∙◌}
use mathlib.Core.Logic.{◌↔◌}
use mathlib.Core.Bool.{Bool, true, false}
use mathlib.Core.List.{List}
use native.Mathlib.Omega.{arith}
use lib.Dec.{T}
use lib.ListN.{length}
use Rattle.text.specs.Text.{Bytes, same}
use Rattle.text.proofs.Tests.{same→eq, same_refl}
use Rattle.numbers.specs.Numbers.{missing_trailer, wrong_hash}
use Rattle.format.specs.Kinds.{Kind}
use Rattle.format.specs.Read.{Outcome, accepted, refused, answer, provided, read_record}
use Rattle.format.proofs.Outcomes.{honest_of}
use Rattle.format.proofs.Refusals.{Gives}
use Rattle.format.proofs.Exactly.{record_exact}
use Rattle.reading.specs.Reading.{answer_of}
use Rattle.reading.specs.declared.Answer.{Answer}
use Rattle.reading.proofs.Answers.{told}
use Rattle.put.specs.Made.{Writes}
use Rattle.put.specs.declared.Written.{Written}
use Rattle.given.proofs.Given.{said_own, said_short, said_whole, refusal_leaves}
use Rattle.trailed.specs.Trailed.{trailer, trailed, record_in, trailer_in, is_trailer, only_if, read_trailed, write_trailed}
use Rattle.trailed.proofs.Trailed.{trailed_sound, trailed_length, trailed_read, trailed_exact, trailed_never_zero}
use Rattle.promises.proofs.Statements.Refusals.{of_records}
use Rattle.promises.proofs.Statements.Trailed.{TrailedLine, LineSaid, WriteSaid, Trailed}
use Rattle.promises.proofs.Reading.{exactly, no_places}
use Rattle.promises.proofs.Files.{walked}
use Rattle.promises.proofs.Refusals.{record_given}

-- ---- a line, by its three tests

-- b: a trailer stands there; c: it is the right one; o: what is said to the record in front
abbrev by : Bool → Bool → Outcome → Outcome
by b c o = provided b missing_trailer (only_if c wrong_hash o)

module _ (o : Outcome) (own : Gives of_records o) where
  is_missing : (b c : Bool) → (answer (by b c o) ≡ missing_trailer) ↔ (T b → ⊥)
  is_missing false c = (λ e t. absurd t, λ n. refl)
  is_missing true c = (λ e. absurd (go c o own e), λ n. absurd (n tt))
    where
      go : (c : Bool) (o : Outcome) → Gives of_records o → answer (only_if c wrong_hash o) ≡ missing_trailer → ⊥
      go true (accepted k fs) g e = absurd (omega arith)
      go false (accepted k fs) g e = absurd (omega arith)
      go c (refused n i) g e = rw e at g

  is_wrong : (b c : Bool) → (answer (by b c o) ≡ wrong_hash) ↔ (T b × ((k : Kind) × (fs : List Bytes) × (o ≡ accepted k fs)) × (T c → ⊥))
  is_wrong false c = (λ e. absurd (omega arith), λ t. absurd t.0)
  is_wrong true c = (λ e. let (a, n) = there c o own e in (tt, a, n), λ (t, (k, fs, e), n). back c o k fs e n)
    where
      there : (c : Bool) (o : Outcome) → Gives of_records o → answer (only_if c wrong_hash o) ≡ wrong_hash → ((k : Kind) × (fs : List Bytes) × (o ≡ accepted k fs)) × (T c → ⊥)
      there true (accepted k fs) g e = absurd (omega arith)
      there false (accepted k fs) g e = ((k, fs, refl), λ t. t)
      there c (refused n i) g e = absurd (rw e at g)

      back : (c : Bool) (o : Outcome) (k : Kind) (fs : List Bytes) → o ≡ accepted k fs → (T c → ⊥) → answer (only_if c wrong_hash o) ≡ wrong_hash
      back true o k fs e n = absurd (n tt)
      back false o k fs e n = rw e

its_own : (b c : Bool) (o : Outcome) (n i : ℕ) → T b → o ≡ refused n i → by b c o ≡ refused n i
its_own true c o n i t e = rw e
its_own false c o n i t e = absurd t

line-said : (s : Bytes) (r : Answer) → r ≡ answer_of (read_trailed s) → LineSaid s r
unfolding read_trailed
line-said s r e =
    let b = is_trailer (trailer_in s) in
    let c = same (trailer_in s) (trailer (record_in s)) in
    let o = read_record (record_in s) in
    let number = (told (read_trailed s) r e).0 in
    let missing = is_missing o (record_given (record_in s)) b c in
    let wrong = is_wrong o (record_given (record_in s)) b c in
    let zero = exactly (read_trailed s) (TrailedLine s) (trailed_exact s) (honest_of (TrailedLine s) (read_trailed s) (trailed_never_zero s) (λ k fs. (trailed_exact s k fs).0)) r e in
    record {
      exactly = zero;
      missing = (λ z. missing.0 (sym number ∙ z), λ n. number ∙ missing.1 n);
      own = λ t n i h. let t' = told (read_trailed s) r e in (t'.0 ∙ ap answer (its_own b c o n i t h), t'.1 ∙ rw (its_own b c o n i t h));
      differs = (
        λ z. let (t, a, n) = wrong.0 (sym number ∙ z) in (t, a, λ q. n (rw q (same_refl (trailer (record_in s))))),
        λ (t, a, n). number ∙ wrong.1 (t, a, λ q. n (same→eq (trailer_in s) (trailer (record_in s)) q)),
      );
      as_record = λ z.
          let (k, fs, l) = zero.0 z in
          let is = (trailed_exact s k fs).1 l in
          e ∙ ap answer_of (is ∙ sym (trailed_sound s k fs is).0);
    }

-- ---- writing

line_written : (s out out' : Bytes) (r : Written) → Writes (write_trailed s (length out)) out out' r → WriteSaid s out out' r
unfolding write_trailed
line_written s out out' r w =
    let line : Kind → List Bytes → Bytes = λ k fs. trailed s in
    let long = trailed_length s in
    record {
      own = said_own line w;
      short = λ k fs b h. said_short line w ((record_exact s k fs).1 b) (omega (arith, long));
      written = λ k fs b h. rw long at (said_whole line w ((record_exact s k fs).1 b) (omega (arith, long)));
      untouched = refusal_leaves (write_trailed s (length out)) w;
      again = λ line' k fs e q h.
          let (own, is) = trailed_sound line' k fs e in
          let same : line' ≡ trailed s = is ∙ ap trailed (sym q) in
          rw (← same) at (said_whole line w (ap read_record q ∙ own) (rw (← same) h));
    }

pub manufacturers : Trailed
manufacturers = record {
  line = λ κs a r s p. line-said a.0.now r p;
  no_places = λ κs a r s p n. no_places (read_trailed a.0.now) r p n;
  written = λ κs a r s p. line_written _ _ _ r p;
  read_back = trailed_read;
  walked = walked read_trailed TrailedLine trailed_exact trailed_never_zero _ (λ lent place r (κs, (s, p)). p) _ (λ lent r (κs, (s, p)). p);
}
