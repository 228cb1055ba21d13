-- `mail::add` meets its contract.
-- Assumes nothing.
use Rattle.mail.proofs.Unfolding.{added_feed, added_full, added_byte}
use Rattle.mail.proofs.add.Goals as goal

pub returns-then-byte-eq-FEED : goal.returns-then-byte-eq-FEED
returns-then-byte-eq-FEED c = added_feed _ _ _ c.requires c.if-byte-eq-FEED.true

pub returns-then-at-out : goal.returns-then-at-out
returns-then-at-out c = added_full _ _ _ c.requires c.if-byte-eq-FEED.false c.if-at-out.true

pub returns : goal.returns
returns c = added_byte _ _ _ c.requires c.if-byte-eq-FEED.false c.if-at-out.false c.put_byte.ensures
