-- The promises about the list, from the laws of list_text.
-- Assumes nothing.
use mathlib.Core.Path.{sym, ap}
use Rattle.put.specs.declared.Written.{Written}
use Rattle.list_text.proofs.Writing.{list_lines}
use Rattle.list_text.proofs.Whole.{says_too_big, list-said, list_left, list_denied, list_kept}
use Rattle.list_text.proofs.Values.{example, no_bytes}
use Rattle.promises.proofs.Statements.Listing.{Listing}

pub listing : Listing
listing = record {
  said = λ κs a r s w.
      record {
        written = λ h.
            let said = list-said _ h w in
            (ap (λ (x : Written). x.no) said, ap (λ (x : Written). x.len) said, list_left _ h w);
        untouched = λ h.
            let said = list_denied _ h w in
            (ap (λ (x : Written). x.no) said, ap (λ (x : Written). x.len) said, list_kept _ h w);
      };
  lines_and_totals = λ κs a r s p h. list_lines _ r h p;
  too-big = λ file h. sym (says_too_big file h);
  example = example;
  no_bytes = no_bytes;
}
