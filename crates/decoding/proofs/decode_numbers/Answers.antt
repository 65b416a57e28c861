-- `decoding::decode_numbers` meets its contract: the invariant is `Decoding`: the rest is numbers, which make the whole with those
-- that were met. Assumes nothing.
use Rattle.std.proofs.Common.{rules}
use native.Mathlib.Omega.{arith}
use Rattle.decoding.proofs.Decoding.{decoding_turns, decoding_ends}
use Rattle.decoding.proofs.decode_numbers.Goals as goal

pub loop-byte-preserved : goal.loop-byte-preserved
loop-byte-preserved c = let l = c.loop-byte in (
  l.invariant.0,
  rw c.ended-count.ensures
      (decoding_turns l.invariant.1 c.from-b.result c.joined.result (omega arith) c.from-b.ensures (search rules) c.joined.ensures),
)

pub returns : goal.returns
returns c = let l = c.loop-byte in
    record { value = (decoding_ends l.invariant.1 (omega arith)).0; list_after = (decoding_ends l.invariant.1 (omega arith)).1 }
