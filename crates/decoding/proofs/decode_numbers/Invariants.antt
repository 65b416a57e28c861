-- `decoding::decode_numbers` meets its contract: the invariant is `Decoding`: the rest is numbers, which make the whole with those
-- that were met. Assumes nothing.
use mathlib.Core.Path.{◌≡◌}
use lib.ListN.{length}
use Rattle.decoding.proofs.Decoding.{Decoding}
use Rattle.decoding.proofs.decode_numbers.Given as goal

abbrev pub invariant-loop-byte : goal.invariant-loop-byte
invariant-loop-byte l = (l.byte-index-end ≡ length l.s) × Decoding l.s l.initial.list l.list l.byte-index l.count l.prior
