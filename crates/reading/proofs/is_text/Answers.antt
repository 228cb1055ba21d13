-- `reading::is_text` meets its contract: each code's text type, and IDENT for any other.
-- Assumes nothing.
use mathlib.Core.Path.{◌≡◌, sym, ◌∙◌}
use native.Mathlib.Omega.{arith}
use Rattle.table.specs.Table.{field_type}
use Rattle.reading.proofs.Types.{ident_text, Other, other}
use Rattle.reading.proofs.is_text.Goals as goal
use Rattle.reading.proofs.is_text.Lts as lts
use Rattle.reading.proofs.is_text.Tie.{the-claims}
use Rattle.reading.proofs.is_text.Reads.{Pre, Post}

-- past the first test
left : (c : lts.Else1 the-claims Pre Post) → Other c.args.code
left c = other c.args.code (sym c.is_ident_code.ensures ∙ c.if-is_ident_code.false)

pub returns-then-is_ident_code : goal.returns-then-is_ident_code
returns-then-is_ident_code c = c.is_ident.ensures ∙ sym (ident_text _ _ (sym c.is_ident_code.ensures ∙ c.if-is_ident_code.true))

pub returns-then-code-eq-TIMESTAMP : goal.returns-then-code-eq-TIMESTAMP
unfolding field_type
returns-then-code-eq-TIMESTAMP c = c.is_timestamp.ensures ∙ rw c.if-code-eq-TIMESTAMP.true

pub returns-then-code-lt-POINT : goal.returns-then-code-lt-POINT
unfolding field_type
returns-then-code-lt-POINT c =
    let u = left c.before.before.before.before in
    let z : c.args.code ≡ 2 = omega (arith, u.some, c.if-code-lt-POINT.true, c.if-code-eq-TIMESTAMP.false) in
    c.is_print.ensures ∙ rw z

pub returns-then-code-eq-POINT : goal.returns-then-code-eq-POINT
unfolding field_type
returns-then-code-eq-POINT c = c.is_point.ensures ∙ rw c.if-code-eq-POINT.true

pub returns-then-code-eq-MAC : goal.returns-then-code-eq-MAC
unfolding field_type
returns-then-code-eq-MAC c = c.is_mac.ensures ∙ rw c.if-code-eq-MAC.true

pub returns-then-code-lt-NONCE : goal.returns-then-code-lt-NONCE
unfolding field_type
returns-then-code-lt-NONCE c =
    let u = left c.before.before.before.before.before.before in
    let z : c.args.code ≡ 5 = omega (arith, u.early c.if-code-lt-NONCE.true, c.if-code-lt-POINT.false, c.if-code-eq-POINT.false, c.if-code-eq-MAC.false) in
    c.is_sig.ensures ∙ rw z

pub returns-then-code-eq-NONCE : goal.returns-then-code-eq-NONCE
unfolding field_type
returns-then-code-eq-NONCE c = c.is_hex.ensures ∙ rw c.if-code-eq-NONCE.true

pub returns-then-code-eq-PRINTABLE : goal.returns-then-code-eq-PRINTABLE
unfolding field_type
returns-then-code-eq-PRINTABLE c = c.is_printable.ensures ∙ rw c.if-code-eq-PRINTABLE.true

pub returns : goal.returns
unfolding field_type
returns c =
    let u = left c.before.before.before.before.before.before in
    let z : c.args.code ≡ 13 = omega (arith, u.listed, c.if-code-lt-NONCE.false, c.if-code-eq-NONCE.false, c.if-code-eq-PRINTABLE.false) in
    c.is_protected.ensures ∙ rw z
