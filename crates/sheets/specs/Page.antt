-- The page that a sheet is written into.
-- Assumes nothing.
use Rattle.std.specs.Prelude.{ℕ}

-- How many bytes a page has: room for a sheet of 256 pairs. No sheet is longer (`page_suffices`, proofs/PrintLaws.antt).
abbrev pub page_bytes : ℕ
page_bytes = 8216
