-- Every promise about the public calls is proved. `promised` (proofs/promised) stands on this.
-- Assumes nothing.
use Rattle.promises.proofs.Statements.Total.{Total}
use Rattle.promises.proofs.Statements.Determined.{Determined}
use Rattle.promises.proofs.Statements.Interface.{Interface}
use Rattle.promises.proofs.Statements.Refusals.{Refusals}
use Rattle.promises.proofs.Statements.FieldNumbers.{FieldNumbers}
use Rattle.promises.proofs.Statements.Conversion.{Conversion}
use Rattle.promises.proofs.Statements.Reading.{Reading}
use Rattle.promises.proofs.Statements.Rulings.{Rulings}
use Rattle.promises.proofs.Statements.Attributes.{Attributes}
use Rattle.promises.proofs.Statements.Building.{Building}
use Rattle.promises.proofs.Statements.Rebuilding.{Rebuilding}
use Rattle.promises.proofs.Statements.Agreement.{Agreement}
use Rattle.promises.proofs.Statements.Files.{Files}
use Rattle.promises.proofs.Statements.Trailed.{Trailed}
use Rattle.promises.proofs.Statements.Mail.{Mail}
use Rattle.promises.proofs.Statements.Cabinet.{Cabinet}
use Rattle.promises.proofs.Statements.Dates.{Dates}
use Rattle.promises.proofs.Statements.Listing.{Listing}
use Rattle.promises.proofs.Statements.Demand3.{Demand3}
use Rattle.promises.proofs.Statements.FlippedBits.{FlippedBits, FlipsPass}
use Rattle.promises.proofs.Statements.Newer.{Newer}
use Rattle.promises.proofs.Statements.Hash.{Hash}
use Rattle.promises.proofs.Statements.Fingerprint.{Fingerprints}
use Rattle.promises.proofs.Statements.Confirmation.{Confirmations}
use Rattle.promises.proofs.Statements.Witnesses.{Witnesses}
use Rattle.promises.proofs.Statements.Forms.{Forms}
use Rattle.promises.proofs.Total.{total}
use Rattle.promises.proofs.Determined.{determined}
use Rattle.promises.proofs.Interface.{interface}
use Rattle.promises.proofs.Refusals.{refusals}
use Rattle.promises.proofs.FieldNumbers.{field_numbers}
use Rattle.promises.proofs.Conversion.{conversion}
use Rattle.promises.proofs.Reading.{reading}
use Rattle.promises.proofs.Rulings.{rulings}
use Rattle.promises.proofs.Attributes.{attributes}
use Rattle.promises.proofs.Building.{building}
use Rattle.promises.proofs.Rebuilding.{rebuilding}
use Rattle.promises.proofs.Agreement.{agreement}
use Rattle.promises.proofs.Files.{files}
use Rattle.promises.proofs.Trailed.{manufacturers}
use Rattle.promises.proofs.Mail.{by_mail}
use Rattle.promises.proofs.Cabinet.{cabinet}
use Rattle.promises.proofs.Dates.{dates}
use Rattle.promises.proofs.Listing.{listing}
use Rattle.promises.proofs.Demand3.{demand3}
use Rattle.promises.proofs.FlippedBits.{flipped_bits, flips_pass}
use Rattle.promises.proofs.Newer.{newest}
use Rattle.promises.proofs.Hash.{hash}
use Rattle.promises.proofs.Fingerprint.{fingerprints}
use Rattle.promises.proofs.Confirmation.{confirmations}
use Rattle.promises.proofs.Witnesses.{witnesses}
use Rattle.promises.proofs.Forms.{forms}

pub promised_of_calls : Total × Determined × Interface × Refusals × FieldNumbers × Conversion × Reading × Rulings × Attributes × Building × Rebuilding × Agreement × Files × Trailed × Mail × Cabinet × Dates × Listing × Demand3 × FlippedBits × FlipsPass × Newer × Hash × Fingerprints × Confirmations × Witnesses × Forms
promised_of_calls = (total, determined, interface, refusals, field_numbers, conversion, reading, rulings, attributes, building, rebuilding, agreement, files, manufacturers, by_mail, cabinet, dates, listing, demand3, flipped_bits, flips_pass, newest, hash, fingerprints, confirmations, witnesses, forms)
