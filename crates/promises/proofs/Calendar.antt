-- The promises of the calendar, from the laws of text.
-- Assumes nothing.
use Rattle.text.proofs.Days.{timestamp_day, every_400_years}
use Rattle.promises.specs.Calendar.{Calendar}

pub calendar : Calendar
calendar = record { exists = timestamp_day; every_400_years = every_400_years }
