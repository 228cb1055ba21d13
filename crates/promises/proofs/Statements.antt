-- What is promised of the public calls: the statements. They speak of what a call's contract says, as the checker reads it, which no clause of a
-- function may cite; proofs/OfCalls.antt proves all of them.
pub mod Determined
pub mod Conversion
pub mod Reading
pub mod Rulings
pub mod Attributes
pub mod Building
pub mod Agreement
pub mod Files
pub mod Trailed
pub mod Mail
pub mod Cabinet
pub mod Dates
pub mod Listing
pub mod Demand3
pub mod FlippedBits
pub mod Newer
pub mod Hash
pub mod Fingerprint
pub mod Confirmation
pub mod Interface
pub mod Total
pub mod Witnesses
pub mod Refusals
pub mod Rebuilding
pub mod FieldNumbers
pub mod Forms
