-- Laws of seven-bit groups, for any number of groups g: what is written is read, what is read was written, and lengths.
use mathlib.Core.Path.{◌≡◌, refl, sym, ap, ◌∙◌}
use mathlib.Core.Logic.{⊎_elim}
use mathlib.Core.List.{List, [], ◌∷◌, ◌++◌}
use Prim.Native.Nat.{ℕ, zero, suc, ◌+◌, ◌*◌, ◌/◌, ◌%◌, ◌^◌, ◌≤◌, ◌<◌}
use native.Mathlib.Nat.{pow-suc, one-le-pow}
use native.Mathlib.Omega.{arith}
use borrow.Author.Tests.{lt-ltb, le-ltb}
use lib.ListN.{length, length-append}
use Rattle.groups.specs.Groups.{Read, Number, Ends, TooLong, Padded, raise, read_from, read_groups, groups_in, encode, pack, Bytes}
use Rattle.grid.proofs.Cases.{lt_or_le, never}
use Rattle.groups.proofs.Ends.{EndOf, end_self, end_next}

last_group : (k x : ℕ) → x < 128 → groups_in k x ≡ x ∷ []
unfolding groups_in
last_group zero x h = refl
last_group (suc k) x h = rw (lt-ltb x 128 h)

first_group : (k x : ℕ) → 128 ≤ x → groups_in (suc k) x ≡ (128 + x % 128) ∷ groups_in k (x / 128)
unfolding groups_in
first_group k x h = rw (le-ltb x 128 h)

-- any two bounds that suffice give the same groups
enough : (j k x : ℕ) → x ≤ j → x ≤ k → groups_in j x ≡ groups_in k x
enough zero k x hj hk = last_group zero x (omega arith) ∙ sym (last_group k x (omega arith))
enough (suc j) zero x hj hk = last_group (suc j) x (omega arith) ∙ sym (last_group zero x (omega arith))
enough (suc j) (suc k) x hj hk =
    ⊎_elim (λ h. last_group (suc j) x h ∙ sym (last_group (suc k) x h))
    (λ h. first_group j x h
    ∙ ap (λ (more : List ℕ). (128 + x % 128) ∷ more) (enough j k (x / 128) (omega arith) (omega arith))
    ∙ sym (first_group k x h))
    (lt_or_le x 128)

pub encode-last : (x : ℕ) → x < 128 → encode x ≡ x ∷ []
unfolding encode
encode-last x h = last_group x x h

encode-first : (x k : ℕ) → 128 ≤ x → x ≡ suc k → encode x ≡ (128 + x % 128) ∷ encode (x / 128)
unfolding encode
encode-first x k h e =
    enough x (suc k) x (omega arith) (omega arith) ∙ first_group k x h
    ∙ ap (λ (more : List ℕ). (128 + x % 128) ∷ more) (enough k (x / 128) (x / 128) (omega arith) (omega arith))

pub encode_more : (x : ℕ) → 128 ≤ x → encode x ≡ (128 + x % 128) ∷ encode (x / 128)
encode_more zero h = absurd (omega arith)
encode_more (suc k) h = encode-first (suc k) k h refl

-- How each byte is read.
pub read_none : (least : ℕ) (bytes : List ℕ) → read_from 0 least bytes ≡ TooLong
unfolding read_from
read_none least bytes = refl

pub read_end : (g least : ℕ) → read_from (suc g) least [] ≡ Ends
unfolding read_from
read_end g least = refl

pub read_padded : (g least b : ℕ) (bytes : List ℕ) → b < 128 → b < least → read_from (suc g) least (b ∷ bytes) ≡ Padded
unfolding read_from
read_padded g least b bytes h l = rw (lt-ltb b 128 h, lt-ltb b least l)

pub read_last : (g least b : ℕ) (bytes : List ℕ) → b < 128 → least ≤ b → read_from (suc g) least (b ∷ bytes) ≡ Number b bytes
unfolding read_from
read_last g least b bytes h l = rw (lt-ltb b 128 h, le-ltb b least l)

pub read_more : (g least b : ℕ) (bytes : List ℕ) → 128 ≤ b → read_from (suc g) least (b ∷ bytes) ≡ raise (b % 128) 128 (read_from g 1 bytes)
unfolding read_from
read_more g least b bytes h = rw (le-ltb b 128 h)

-- Law 1. What is written is read, before anything: any number of at most suc g groups.
one_group : (g least x : ℕ) (rest : List ℕ) → least ≤ x → x < 128 → read_from (suc g) least (encode x ++ rest) ≡ Number x rest
one_group g least x rest l h = rw (encode-last x h) (read_last g least x rest h l)

read_written : (g least x : ℕ) (rest : List ℕ) → least ≤ x → x < 128 ^ suc g → read_from (suc g) least (encode x ++ rest) ≡ Number x rest
read_written zero least x rest l h = one_group zero least x rest l h
read_written (suc g) least x rest l h =
    ⊎_elim (λ s. one_group (suc g) least x rest l s)
    (λ s. rw (encode_more x s)
    (read_more (suc g) least (128 + x % 128) (encode (x / 128) ++ rest) (omega arith)
    ∙ ap (raise ((128 + x % 128) % 128) 128) (read_written g 1 (x / 128) rest (omega arith) (omega (arith, pow-suc 128 (suc g))))
    ∙ ap (λ (v : ℕ). Number v rest) (omega arith)))
    (lt_or_le x 128)

pub encode_reads : (g x : ℕ) (rest : List ℕ) → 0 < g → x < 128 ^ g → read_groups g (encode x ++ rest) ≡ Number x rest
encode_reads zero x rest p h = absurd (omega arith)
encode_reads (suc g) x rest p h = read_written g 0 x rest (omega arith) h

-- Law 2. What is read was written: the bytes are the shortest form of the number, and it has at most g groups.
pub record Wrote (g least : ℕ) (bytes : List ℕ) (x : ℕ) (rest : List ℕ) : Type 0 where
  pub same : bytes ≡ encode x ++ rest
  pub low : least ≤ x
  pub high : x < 128 ^ g

raised : (v w : ℕ) (r : Read) (x : ℕ) (rest : List ℕ) → raise v w r ≡ Number x rest → (y : ℕ) × (r ≡ Number y rest) × (x ≡ v + w * y)
raised v w (Number y more) x rest e = (y, cc, cc)
raised v w Ends x rest e = never cc
raised v w TooLong x rest e = never cc
raised v w Padded x rest e = never cc

-- a byte that says that another follows, before the shortest form of y
encode-raise : (b x y : ℕ) → 128 ≤ b → b < 256 → 0 < y → x ≡ b % 128 + 128 * y → encode x ≡ b ∷ encode y
encode-raise b x y l h p e =
    let q : x / 128 ≡ y = omega arith in let r : 128 + x % 128 ≡ b = omega arith in rw (encode_more x (omega arith), q, r)

below_pow : (g : ℕ) → 128 ≤ 128 ^ suc g
below_pow g = omega (arith, pow-suc 128 g, one-le-pow g 128 (omega arith))

-- the case of a last byte, and that of a byte before others
wrote_last : (g least b : ℕ) (bytes : List ℕ) (x : ℕ) (rest : List ℕ) → b < 128 → read_from (suc g) least (b ∷ bytes) ≡ Number x rest →
    Wrote (suc g) least (b ∷ bytes) x rest
wrote_last g least b bytes x rest h e = ⊎_elim (λ l. never (cc (read_padded g least b bytes h l))) (λ l. taken l) (lt_or_le b least)
  where
    taken : least ≤ b → Wrote (suc g) least (b ∷ bytes) x rest
    taken l =
        let f : Number b bytes ≡ Number x rest = sym (read_last g least b bytes h l) ∙ e in
        let v : b ≡ x = cc in
        record { same = rw (encode-last x (omega arith)) (cc); low = omega arith; high = omega (arith, below_pow g) }

wrote_more : (g least b y : ℕ) (bytes : List ℕ) (x : ℕ) (rest : List ℕ) → 128 ≤ b → b < 256 → least ≤ 1 → x ≡ b % 128 + 128 * y →
    Wrote g 1 bytes y rest → Wrote (suc g) least (b ∷ bytes) x rest
wrote_more g least b y bytes x rest l h o e r = record {
  same = rw (encode-raise b x y l h r.low e) (ap (λ (s : List ℕ). b ∷ s) r.same);
  low = omega arith;
  high = omega (arith, pow-suc 128 g);
}

wrote : (g least : ℕ) (bytes : List ℕ) (x : ℕ) (rest : List ℕ) → Bytes bytes → least ≤ 1 → read_from g least bytes ≡ Number x rest →
    Wrote g least bytes x rest
unfolding read_from
wrote zero least bytes x rest w o e = never cc
wrote (suc g) least [] x rest w o e = never cc
wrote (suc g) least (b ∷ bytes) x rest w o e =
    ⊎_elim (λ h. wrote_last g least b bytes x rest h e)
    (λ h. let t = raised (b % 128) 128 (read_from g 1 bytes) x rest (sym (read_more g least b bytes h) ∙ e) in
    wrote_more g least b t.0 bytes x rest h (w 0) o t.2 (wrote g 1 bytes t.0 rest (λ i. w (suc i)) (omega arith) t.1))
    (lt_or_le b 128)

pub read_encodes : (g : ℕ) (bytes : List ℕ) (x : ℕ) (rest : List ℕ) → Bytes bytes → read_groups g bytes ≡ Number x rest →
    (bytes ≡ encode x ++ rest) × (x < 128 ^ g)
read_encodes g bytes x rest w e = let r = wrote g 0 bytes x rest w (omega arith) e in (r.same, r.high)

-- What is left is an end of the bytes.
pub read_rest : (g least : ℕ) (bytes : List ℕ) (x : ℕ) (rest : List ℕ) → read_from g least bytes ≡ Number x rest → EndOf rest bytes
unfolding read_from
read_rest zero least bytes x rest e = never cc
read_rest (suc g) least [] x rest e = never cc
read_rest (suc g) least (b ∷ bytes) x rest e =
    ⊎_elim
    (λ h. ⊎_elim (λ l. never (cc (read_padded g least b bytes h l)))
    (λ l. let f : Number b bytes ≡ Number x rest = sym (read_last g least b bytes h l) ∙ e in
    let r : rest ≡ bytes = cc in rw r (end_next bytes bytes b (end_self bytes)))
    (lt_or_le b least))
    (λ h. let t = raised (b % 128) 128 (read_from g 1 bytes) x rest (sym (read_more g least b bytes h) ∙ e) in
    end_next rest bytes b (read_rest g 1 bytes t.0 rest t.1))
    (lt_or_le b 128)

-- Law 3. A number of at most g groups has at most g bytes, and at least one.
encode-length : (g x : ℕ) → x < 128 ^ suc g → length (encode x) ≤ suc g
encode-length zero x h = rw (encode-last x h) (omega arith)
encode-length (suc g) x h =
    ⊎_elim (λ s. rw (encode-last x s) (omega arith))
    (λ s. rw (encode_more x s) (omega (arith, encode-length g (x / 128) (omega (arith, pow-suc 128 (suc g))))))
    (lt_or_le x 128)

pub encode_short : (g x : ℕ) → 0 < g → x < 128 ^ g → length (encode x) ≤ g
encode_short zero x p h = absurd (omega arith)
encode_short (suc g) x p h = encode-length g x h

pub encode_some : (x : ℕ) → 0 < length (encode x)
encode_some x = ⊎_elim (λ s. rw (encode-last x s) (omega arith)) (λ s. rw (encode_more x s) (omega arith)) (lt_or_le x 128)

-- The bytes of numbers of one, two and three groups.
pub one_byte : (x : ℕ) → x < 128 → 1 ≡ length (encode x)
one_byte x h = rw (encode-last x h)

pub two_bytes : (x : ℕ) → 128 ≤ x → x < 16384 → 2 ≡ length (encode x)
two_bytes x l h = rw (encode_more x l) (ap suc (one_byte (x / 128) (omega arith)))

pub three_bytes : (x : ℕ) → 16384 ≤ x → x < 2097152 → 3 ≡ length (encode x)
three_bytes x l h = rw (encode_more x (omega arith)) (ap suc (two_bytes (x / 128) (omega arith) (omega arith)))

pub pack-length : (x : ℕ) (xs : List ℕ) → length (pack (x ∷ xs)) ≡ length (encode x) + length (pack xs)
pack-length x xs = length-append (encode x) (pack xs)

-- Examples for two groups.
abbrev pub TwoGroups : Type 0
TwoGroups =
    (read_groups 2 (0xF4 ∷ 0x03 ∷ []) ≡ Number 500 [])
    × (read_groups 2 (0x80 ∷ 0x80 ∷ []) ≡ TooLong)
    × (read_groups 2 (0x81 ∷ 0x00 ∷ []) ≡ Padded)
    × (encode 500 ≡ 0xF4 ∷ 0x03 ∷ [])

pub two_groups : TwoGroups
unfolding read_from encode groups_in
two_groups = (refl, refl, refl, refl)

-- The same laws for three groups, and what two bytes and three with the top bit set are there.
pub three_groups_read : (x : ℕ) (rest : List ℕ) → x < 128 ^ 3 → read_groups 3 (encode x ++ rest) ≡ Number x rest
three_groups_read x rest h = encode_reads 3 x rest (omega arith) h

pub three_groups_written : (bytes : List ℕ) (x : ℕ) (rest : List ℕ) → Bytes bytes → read_groups 3 bytes ≡ Number x rest →
    (bytes ≡ encode x ++ rest) × (x < 128 ^ 3)
three_groups_written bytes x rest w e = read_encodes 3 bytes x rest w e

pub three_groups_short : (x : ℕ) → x < 128 ^ 3 → length (encode x) ≤ 3
three_groups_short x h = encode_short 3 x (omega arith) h

abbrev pub ThreeGroups : Type 0
ThreeGroups =
    (read_groups 3 (0x80 ∷ 0x80 ∷ []) ≡ Ends)
    × (read_groups 3 (0x80 ∷ 0x80 ∷ 0x80 ∷ []) ≡ TooLong)
    × (read_groups 3 (0x80 ∷ 0x80 ∷ 0x01 ∷ []) ≡ Number 16384 [])
    × (encode 16384 ≡ 0x80 ∷ 0x80 ∷ 0x01 ∷ [])

pub three_groups : ThreeGroups
unfolding read_from encode groups_in
three_groups = (refl, refl, refl, refl)
