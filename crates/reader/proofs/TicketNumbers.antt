-- What the numbers of a ticket have to be, in one record: an unpacked ticket is so, and numbers that are so are packed and unpacked again.
-- Whoever changes a ticket's numbers shows that they stay so.
use Rattle.std.specs.Prelude.{Ok}
use mathlib.Core.Path.{◌≡◌, refl}
use mathlib.Core.Bool.{Bool, true, false, ◌||◌}
use mathlib.Core.Logic.{◌⊎◌, inl, inr}
use mathlib.Core.List.{List}
use Prim.Native.Nat.{ℕ, ◌+◌, ◌*◌, ◌≤◌, ◌<◌}
use native.Mathlib.Omega.{arith}
use borrow.Author.Tests.{le-leb, eqb-true}
use lib.Dec.{eqb}
use lib.ListN.{length, get_or}
use Rattle.checks.specs.TicketFaults.{pair_passes}
use Rattle.checks.proofs.FaultLaws.{amount_clear, cap_clear, cap-none}
use Rattle.groups.specs.Groups.{pack}
use Rattle.documents.specs.Walk.{read_head, form}
use Rattle.documents.specs.Layout.{ticket}
use Rattle.reader.specs.Answer.{unpacked, packed}
use Rattle.passing.specs.Passes.{head_passes}
use Rattle.documents.proofs.PairLaws.{Deal, faultless_deal}
use Rattle.passing.proofs.Accepting.{PairsPass, passes_faultless, ticket_whole}
use Rattle.reader.proofs.Facts.{unpacked_shape, unpacked-hours, DealAt, unpacked_deal, unpacked-none, packed-unpacked}

-- The pair's first number stands at this place.
abbrev pub pair_start : ℕ → ℕ → ℕ → ℕ → ℕ
pair_start n m i j = 3 + n + m + 5 * (i * m + j)

-- Of the numbers of a list with n growers and m pilots.
pub record Within (xs : List ℕ) (n m : ℕ) : Type 0 where
  pub kind : get_or xs 0 0 ≡ 1
  pub growers : (1 ≤ n) × (n ≤ 16)
  pub pilots : (1 ≤ m) × (m ≤ 16)
  pub count : length xs ≡ 3 + n + m + 5 * (n * m)
  pub hours : (k : ℕ) → k < n + m → get_or xs (3 + k) 0 ≤ 60
  pub deal : (i j : ℕ) → i < n → j < m → DealAt xs (pair_start n m i j)
  -- whoever has no hours has no caps
  pub none : (i j : ℕ) → i < n → j < m → (get_or xs (3 + i) 0 ≡ 0) ⊎ (get_or xs (3 + n + j) 0 ≡ 0) →
      (get_or xs (pair_start n m i j) 0 ≡ 0) × (get_or xs (pair_start n m i j + 3) 0 ≡ 0)

abbrev pub Passing : List ℕ → Type 0
Passing xs = Within xs (get_or xs 1 0) (get_or xs 2 0)

pub unpacked_passing : (s xs : List ℕ) → unpacked s ≡ Ok xs → Passing xs
unpacked_passing s xs e =
    let h = unpacked_shape s xs e in
    record {
      kind = h.kind;
      growers = h.growers;
      pilots = h.pilots;
      count = h.count;
      hours = λ k l. unpacked-hours s xs e (3 + k) (omega arith) (omega arith);
      deal = unpacked_deal s xs e;
      none = λ i j hi hj z. unpacked-none s xs e i j hi hj z _ refl;
    }

-- The five numbers of a pair pass exactly if they are in range and, where somebody of it has no hours, the caps are 0.
pub passes_deal : (none : Bool) (a b c d e : ℕ) → pair_passes none a b c d e ≡ true →
    Deal a b c d e × (none ≡ true → (a ≡ 0) × (d ≡ 0))
passes_deal none a b c d e h =
    let f = passes_faultless none a b c d e h in
    (faultless_deal none a b c d e f, λ n. (cap-none none a f.tariff_cap n, cap-none none d f.free_cap n))

pub deal_passes : (none : Bool) (a b c d e : ℕ) → Deal a b c d e → (none ≡ true → (a ≡ 0) × (d ≡ 0)) → pair_passes none a b c d e ≡ true
deal_passes none a b c d e f z =
    rw (
      cap_clear none a f.tariff_capped (λ n. (z n).0),
      amount_clear a b f.gain_capped (λ n. (f.no_tariff n).0),
      amount_clear a c f.pay_capped (λ n. (f.no_tariff n).1),
      cap_clear none d f.free_capped (λ n. (z n).1),
      amount_clear d e f.free_gain_capped f.no_free,
    )

-- Which of two numbers is 0, if one is.
pub which_zero : (x y : ℕ) → (eqb x 0 || eqb y 0) ≡ true → (x ≡ 0) ⊎ (y ≡ 0)
which_zero x y e = go (eqb x 0) refl e
  where
    go : (t : Bool) → eqb x 0 ≡ t → (t || eqb y 0) ≡ true → (x ≡ 0) ⊎ (y ≡ 0)
    go true f e = inl (eqb-true x 0 f)
    go false f e = inr (eqb-true y 0 e)

module _ (xs : List ℕ) (p : Passing xs) where
  abbrev n : ℕ
  n = get_or xs 1 0

  abbrev m : ℕ
  m = get_or xs 2 0

  head : head_passes (get_or xs 0 0) n m ≡ true
  head = rw (p.kind, le-leb 1 n p.growers.0, le-leb n 16 p.growers.1, le-leb 1 m p.pilots.0, le-leb m 16 p.pilots.1)

  pairs : PairsPass xs n m
  pairs i hi j hj =
      let e : 3 + n + m + 5 * (i * m) + 5 * j ≡ pair_start n m i j = omega arith in
      rw e (deal_passes _ _ _ _ _ _ (p.deal i j hi hj) (λ z. p.none i j hi hj (which_zero _ _ z)))

  pub passing_whole : form ticket read_head xs ≡ Ok xs
  passing_whole =
      ticket_whole xs _ _ _ refl refl refl head p.count (λ k h. rw (le-leb (get_or xs (3 + k) 0) 60 (p.hours k h))) pairs

  pub passing_packed : packed xs ≡ Ok (pack xs)
  passing_packed = rw passing_whole

  pub passing_unpacked : unpacked (pack xs) ≡ Ok xs
  passing_unpacked = packed-unpacked xs (pack xs) passing_packed
