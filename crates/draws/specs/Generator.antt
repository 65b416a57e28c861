-- The generator: numbers that look random, from a seed. It is the minimal standard generator of Park and Miller (Communications of the
-- ACM 31, 1988) with their later multiplier (CACM 36, 1993), which C++ has as `minstd_rand`: multiply, and take the rest by the prime
-- 2^31 - 1. From 1 to that prime less one it meets every number before one comes again.
-- Assumes nothing.
use Rattle.std.specs.Prelude.{ℕ, zero, suc, ◌+◌, ◌*◌, ◌%◌}

abbrev pub times : ℕ → ℕ → ℕ
times x y = x * y % 2147483647

unfoldable pub next : ℕ → ℕ
next x = times x 48271

-- The number after k steps.
abbrev pub after : ℕ → ℕ → ℕ
after zero x = x
after (suc k) x = after k (next x)

-- Where a seed starts: at the fifth power of a number that is not 0, since 0 would stay 0. So seeds that are near start far apart.
-- Nothing rests on it that different seeds below 2,147,483,646 start at different numbers; they do, as 5 does not divide the prime
-- less one.
abbrev pub fifth : ℕ → ℕ
fifth x = times (times (times x x) (times x x)) x

unfoldable pub start : ℕ → ℕ
start seed = fifth (seed % 2147483646 + 1)
