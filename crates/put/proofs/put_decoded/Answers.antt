-- `put::put_decoded` meets its contract. The loop's invariant: the bytes of the pairs passed are written, and hexadecimal characters are left.
-- Assumes nothing.
use Prim.Native.Nat.{ℕ, ◌<◌}
use mathlib.Core.Path.{◌≡◌, sym, ap, ◌∙◌}
use mathlib.Core.List.{[], ◌∷◌, ◌++◌}
use native.Mathlib.Omega.{arith}
use lib.ListN.{length}
use Rattle.std.specs.Slice.Iter.{chunks_exact_rest}
use Rattle.text.specs.Base16.{base16_decode}
use Rattle.put.proofs.Pieces.{put_of, puts_of, put_as, not_put}
use Rattle.put.proofs.Underway.{begin, has_room, go_on, finish}
use Rattle.put.proofs.Decoding.{length_decode, decode_few, pair_first, decoded_none, decoded_all, decoded_length, characters_all}
use Rattle.put.proofs.put_decoded.Goals as goal

pub returns-then-not-is_hex : goal.returns-then-not-is_hex
returns-then-not-is_hex c = decoded_none c.args.characters.now c.is_hex.ensures c.if-not-is_hex.true

pub returns-then-out-at : goal.returns-then-out-at
returns-then-out-at c = not_put (omega (arith, decoded_length c.args.characters.now c.is_hex.ensures c.if-not-is_hex.false))

pub loop-pair-init : goal.loop-pair-init
loop-pair-init c =
    let e : chunks_exact_rest c.into_iter-pair-iterator.result ≡ c.args.characters.now = cc in
    record {
      under = rw e (begin (omega (arith, length_decode c.args.characters.now)));
      left = rw e (characters_all c.args.characters.now c.is_hex.ensures c.if-not-is_hex.false);
      pairs = cc;
    }

pub byte_of-requires : goal.byte_of-requires
byte_of-requires c =
    let i = c.loop-pair.invariant in
    let s = c.in-Some.ensures.steps.1 in
    let p = pair_first (chunks_exact_rest c.loop-pair.pair-iterator) c.in-Some.pair.now (chunks_exact_rest c.next.new.self) s.0 (s.1 ∙ i.pairs) i.left in
    (p.high, p.low)

pub loop-pair-preserved : goal.loop-pair-preserved
loop-pair-preserved c =
    let i = c.loop-pair.invariant in
    let s = c.in-Some.ensures.steps in
    let after = chunks_exact_rest c.next.new.self in
    let p = pair_first (chunks_exact_rest c.loop-pair.pair-iterator) c.in-Some.pair.now after s.1.0 (s.1.1 ∙ i.pairs) i.left in
    let b = c.byte_of.result ∷ [] in
    let e = p.bytes ∙ ap (λ (x : ℕ). (x ∷ []) ++ base16_decode after) (sym c.byte_of.ensures) in
    record {
      under = go_on i.under b (base16_decode after) e (put_of (has_room i.under b (base16_decode after) e) c.put_byte-next.ensures);
      left = p.left;
      pairs = s.0 ∙ i.pairs;
    }

pub returns : goal.returns
returns c =
    let i = c.loop-pair.invariant in
    let few : length (chunks_exact_rest c.loop-pair.pair-iterator) < 2 = omega (arith, i.pairs, c.in-None.ensures.steps.1.0) in
    puts_of (put_as (sym (decoded_all c.args.characters.now c.is_hex.ensures c.if-not-is_hex.false)) (finish i.under (decode_few _ few)))
