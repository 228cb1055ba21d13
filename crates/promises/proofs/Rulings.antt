-- The promises about the two rule sets, from the laws of format.
-- Assumes nothing.
use mathlib.Core.Path.{ap}
use mathlib.Core.List.{List}
use lib.ListN.{length}
use lib.Dec.{leb→le, le→leb}
use mir.Facts.{T_not}
use Rattle.text.specs.Text.{Bytes}
use Rattle.text.proofs.Tests.{by_test}
use Rattle.format.specs.Kinds.{Kind}
use Rattle.format.specs.Build.{record_of, longest_record, unsigned_module, PermittedUnder, BuiltUnder}
use Rattle.format.specs.Read.{answer, read_under}
use Rattle.format.specs.declared.Rules.TheVariants.{UpToE10, Today}
use Rattle.format.proofs.Exactly.{under_exact, under_says}
use Rattle.format.proofs.Earlier.{earlier_accepts, still_refuses, no_more_accepts, unsigned_ended, unsigned_is}
use Rattle.table.specs.Table.{kinds_from}
use Rattle.promises.proofs.Statements.Rulings.{UnsignedModule, Rulings}
use Rattle.promises.proofs.Reading.{exactly}

permitted_earlier : (k : Kind) (fs : List Bytes) → PermittedUnder Today k fs → PermittedUnder UpToE10 k fs
permitted_earlier k fs p = record { fit = p.fit; both = p.both; attributes = p.attributes; signs = tt; short = p.short }

permitted_today : (k : Kind) (fs : List Bytes) → PermittedUnder UpToE10 k fs → (UnsignedModule k fs → ⊥) → PermittedUnder Today k fs
permitted_today k fs p n =
    record {
      fit = p.fit;
      both = p.both;
      attributes = p.attributes;
      signs = by_test (unsigned_module k fs) (λ t. absurd (n ((unsigned_is k fs p).0 t))) (λ t. t);
      short = p.short;
    }

pub rulings : Rulings
rulings = record {
  up_to_E10 = λ k fs. (
    λ p. (p.fit, p.both, p.attributes, leb→le (length (record_of k fs)) longest_record p.short),
    λ (fit, both, attributes, short). record { fit = fit; both = both; attributes = attributes; signs = tt; short = le→leb (length (record_of k fs)) longest_record short },
  );
  today = λ k fs. (
    λ p. (permitted_earlier k fs p, λ u. T_not (unsigned_module k fs) ((unsigned_is k fs p).1 u) p.signs),
    λ (p, n). permitted_today k fs p n,
  );
  exactly = λ κs a r s p.
      let ks : List Kind = kinds_from a.1.0 a.1.1.0 in
      let x : Bytes = a.1.1.1.0.now in
      exactly (read_under a.0 ks x) (BuiltUnder a.0 ks x) (under_exact a.0 ks x) (under_says a.0 ks x) r p;
  earlier = λ ks s k fs e. (earlier_accepts ks s k fs e).0;
  refused_before = still_refuses;
  ended = λ ks s. (
    λ e. let (k, fs, h, t) = unsigned_ended ks s e in (k, fs, h, (unsigned_is k fs ((under_exact UpToE10 ks s k fs).0 h).permitted).0 t),
    λ (k, fs, h, u). ap answer (no_more_accepts ks s k fs h ((unsigned_is k fs ((under_exact UpToE10 ks s k fs).0 h).permitted).1 u)),
  );
}
