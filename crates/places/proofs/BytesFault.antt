-- The same of bytes: what they are refused for is decided by the number at the place, or no number can be read there, and the place is
-- that after all numbers. Then they are refused for what cannot be read, or, where the numbers are a whole document, for what is left.
-- Assumes nothing.
use mathlib.Core.Path.{◌≡◌, refl, sym, ap, ◌∙◌}
use mathlib.Core.Logic.{◌⊎◌, ⊎_elim, inl, inr}
use mathlib.Core.List.{List, [], ◌∷◌, ◌++◌, append-nil, append_assoc}
use Prim.Native.Nat.{ℕ, zero, suc, ◌+◌, ◌-◌, ◌*◌, ◌≤◌}
use native.Mathlib.Nat.{mul-le-mul}
use native.Mathlib.Omega.{arith}
use borrow.Author.Tests.{eqb-true}
use lib.Dec.{eqb}
use lib.ListN.{length, drop}
use lib.Seq.{take-length, drop_at, get_or-drop}
use Rattle.grid.proofs.Cases.{never}
use Rattle.checks.specs.declared.refusals.Document.{Document}
use Rattle.checks.specs.declared.refusals.Refusals.{Refusals}
use Rattle.std.specs.Prelude.{Ok, Err}
use Rattle.checks.specs.declared.refusals.Refusal.{Refusal}
use Rattle.checks.specs.Refusals.{Checked, refusals_of, settlement_refusals}
use Rattle.checks.proofs.FaultLaws.{must_holds, party_range, settlement_passes_lem}
use Rattle.groups.specs.Groups.{Read, Number, Ends, TooLong, Padded, Bytes, groups, encode, pack, bytes}
use Rattle.groups.proofs.GroupLaws.{read_encodes}
use Rattle.scanning.specs.Sources.{bytes-ending}
use Rattle.documents.specs.declared.State.{State}
use Rattle.documents.specs.Walk.{Taken, Refused, Took, Gives, read_head, met, unless, with, next, closed, final, walk}
use Rattle.documents.specs.Walk.{rest, form}
use Rattle.documents.specs.State.{start}
use Rattle.documents.specs.Layout.{fault_in, after_in, body_in, form_of}
use Rattle.documents.proofs.WalkLaws.{Good, gives_append, walk_took, took_walk}
use Rattle.places.specs.Places.{number_then, numbers_in, most_numbers, numbers_at_front, number_of, beginning_of}
use Rattle.places.proofs.EndsEarly.{fault_not_ends, left_not_ends, with_refused}
use Rattle.places.proofs.ReadingLaws.{numbers_more}
use Rattle.places.proofs.FirstFault.{Decides, first_fault, accepted_place}

-- No number was read, and the refusal of that is w.
abbrev pub NoNumber : Refusals → Read → Refusal → Type 0
NoNumber r (Number x b) w = ⊥
NoNumber r Ends w = w ≡ r.ends
NoNumber r TooLong w = w ≡ r.long
NoNumber r Padded w = w ≡ r.padded

-- A document with fewer numbers than are looked at. Every ticket is one, by its own rules; a settlement is, of a ticket with n and m of
-- at most 16.
abbrev pub Small : Document → Type 0
Small Document.Ticket = Unit {0}
Small (Document.Settlement n m) = (n ≤ 16) × (m ≤ 16)

module _ (p : Document) (s : List ℕ) (w : Refusal) where
  -- The numbers are the beginning of a document, and no number can be read from what comes after them: w is the refusal of that.
  pub record Unread : Type 0 where
    pub early : form (form_of p) read_head (numbers_at_front s) ≡ Err (refusals_of p).ends
    pub after : List ℕ
    pub gives : Gives bytes s (numbers_at_front s) after
    pub why : NoNumber (refusals_of p) (bytes after) w

  -- The numbers are a whole document, and something comes after them, but no number: w is the refusal of what is left.
  pub record Over : Type 0 where
    pub whole : form (form_of p) read_head (numbers_at_front s) ≡ Ok (numbers_at_front s)
    pub after : List ℕ
    pub gives : Gives bytes s (numbers_at_front s) after
    pub some : after ≡ [] → ⊥
    pub none : (x : ℕ) (b : List ℕ) → bytes after ≡ Number x b → ⊥
    pub why : w ≡ (refusals_of p).left

-- The numbers of bytes, after some of them.
gives_numbers : (xs a b : List ℕ) (i j : ℕ) → Gives bytes a xs b → i ≡ length xs + j → numbers_in i a ≡ xs ++ numbers_in j b
unfolding numbers_in
gives_numbers [] a b i j g e = let f : i ≡ j = omega arith in rw (f, g)
gives_numbers (x ∷ xs) a b zero j g e = absurd (omega arith)
gives_numbers (x ∷ xs) a b (suc i) j g e = rw g.1 (ap (λ (l : List ℕ). x ∷ l) (gives_numbers xs g.0 b i j g.2 (omega arith)))

gives_front : (xs b : List ℕ) → Gives read_head (xs ++ b) xs b
gives_front [] b = refl
gives_front (x ∷ xs) b = (xs ++ b, refl, gives_front xs b)

-- A source of bytes that gives the numbers l, after which none can be read.
record Halts (r : Refusals) (a l : List ℕ) (w : Refusal) : Type 0 where
  after : List ℕ
  gives : Gives bytes a l after
  why : NoNumber r (bytes after) w

-- A walk over bytes that is refused, and what the walk over their numbers comes to.
module _ (p : Document) where
  Compared : (a l : List ℕ) (w : Refusal) (t : Taken) → Type 0
  Compared a l w t = ((t ≡ Refused w) × (w ≡ (refusals_of p).ends → ⊥)) ⊎ ((t ≡ Refused (refusals_of p).ends) × Halts (refusals_of p) a l w)

  took_numbers : (k i j : ℕ) (s : State) (a xs b : List ℕ) → i ≡ k + j → walk (form_of p) bytes k s a ≡ Took xs b →
      walk (form_of p) read_head k s (numbers_in i a) ≡ Took xs (numbers_in j b)
  took_numbers k i j s a xs b e f =
      let t = walk_took (form_of p) bytes k s a xs b f in
      rw (gives_numbers xs a b i j t.gives (omega (arith, t.count)))
      (took_walk (form_of p) read_head k s (xs ++ numbers_in j b) xs (numbers_in j b)
      (record { count = t.count; good = t.good; gives = gives_front xs (numbers_in j b) }))

  compared_after : (a b l : List ℕ) (x : ℕ) (w : Refusal) (t : Taken) → bytes a ≡ Number x b → Compared b l w t →
      Compared a (x ∷ l) w (with (x ∷ []) t)
  unfolding Compared
  compared_after a b l x w t e c = ⊎_elim
      (λ h. inl (ap (with (x ∷ [])) h.0, h.1))
      (λ h. inr (ap (with (x ∷ [])) h.0, record { after = h.1.after; gives = (b, e, h.1.gives); why = h.1.why }))
      c

  refused_numbers : (k i : ℕ) (s : State) (a : List ℕ) (w : Refusal) → k ≤ i → walk (form_of p) bytes k s a ≡ Refused w →
      Compared a (numbers_in i a) w (walk (form_of p) read_head k s (numbers_in i a))
  unfolding walk numbers_in Compared
  refused_numbers zero i s a w h e = never cc
  refused_numbers (suc k) zero s a w h e = absurd (omega arith)
  refused_numbers (suc k) (suc i) s a w h e = go (λ u b. refused_numbers k i u b w (omega arith)) (bytes a) refl e
    where
      Later : Type 0
      Later = (u : State) (b : List ℕ) → walk (form_of p) bytes k u b ≡ Refused w →
          Compared b (numbers_in i b) w (walk (form_of p) read_head k u (numbers_in i b))

      checked : Later → (v : Checked) (x : ℕ) (b : List ℕ) → bytes a ≡ Number x b → (v ≡ Err (refusals_of p).ends → ⊥) →
          unless v (with (x ∷ []) (walk (form_of p) bytes k (after_in p s x) b)) ≡ Refused w →
          Compared a (x ∷ numbers_in i b) w (unless v (with (x ∷ []) (walk (form_of p) read_head k (after_in p s x) (numbers_in i b))))
      checked later (Ok z) x b f o e =
          compared_after a b (numbers_in i b) x w (walk (form_of p) read_head k (after_in p s x) (numbers_in i b)) f
          (later (after_in p s x) b (with_refused (x ∷ []) (walk (form_of p) bytes k (after_in p s x) b) w e))
      checked later (Err v) x b f o e = let d : v ≡ w = cc in inl (ap Refused d, λ z. o (ap (λ (u : Refusal). Err u) (d ∙ z)))

      go : Later → (r : Read) → bytes a ≡ r →
          met (refusals_of p) r (λ x b. unless (fault_in p s x) (with (x ∷ []) (walk (form_of p) bytes k (after_in p s x) b))) ≡ Refused w →
          Compared a (number_then r (λ b. numbers_in i b)) w
          (walk (form_of p) read_head (suc k) s (number_then r (λ b. numbers_in i b)))
      go later (Number x b) f e = checked later (fault_in p s x) x b f (fault_not_ends p s x) e
      go later Ends f e = inr (refl, record { after = a; gives = refl; why = rw f (cc) })
      go later TooLong f e = inr (refl, record { after = a; gives = refl; why = rw f (cc) })
      go later Padded f e = inr (refl, record { after = a; gives = refl; why = rw f (cc) })

-- The numbers after the first three are few enough that one more would be looked at.
body_few : (p : Document) → Small p → (xs : List ℕ) → length xs ≡ 3 → Good (form_of p) start xs →
    body_in p (final (form_of p) start xs) ≤ 1312
body_few p q [] e g = absurd (omega arith)
body_few p q (k ∷ []) e g = absurd (omega arith)
body_few p q (k ∷ x ∷ []) e g = absurd (omega arith)
body_few p q (k ∷ x ∷ y ∷ z ∷ xs) e g = absurd (omega arith)
body_few Document.Ticket q (k ∷ x ∷ y ∷ []) e g =
    let hx = party_range x g.1.0 in
    let hy = party_range y g.1.1.0 in
    let f : x * y ≤ 16 * 16 = mul-le-mul hx.1 hy.1 in
    omega arith
body_few (Document.Settlement n m) q (k ∷ x ∷ y ∷ []) e g =
    let px = (settlement_passes_lem n m 1 x g.1.0).1 in
    let py = (settlement_passes_lem n m 2 y g.1.1.0).1 in
    let ex : x ≡ n = eqb-true x n (must_holds (eqb x n) settlement_refusals.parties px) in
    let ey : y ≡ m = eqb-true y m (must_holds (eqb y m) settlement_refusals.parties py) in
    let f : n * m ≤ 16 * 16 = mul-le-mul q.0 q.1 in
    rw (ex, ey) (omega arith)

module _ (p : Document) (q : Small p) (s : List ℕ) (w : Refusal) where
  -- What the numbers of refused bytes come to.
  Refused_so : Type 0
  Refused_so =
      ((form (form_of p) read_head (numbers_at_front s) ≡ Err w) × (w ≡ (refusals_of p).ends → ⊥)) ⊎ (Unread p s w ⊎ Over p s w)

  -- after the first three numbers
  module _ (xs b : List ℕ) (f : walk (form_of p) bytes 3 start s ≡ Took xs b) where
    numbers_front : numbers_at_front s ≡ xs ++ numbers_in 1313 b
    numbers_front =
        let t = walk_took (form_of p) bytes 3 start s xs b f in
        gives_numbers xs s b most_numbers 1313 t.gives (omega (arith, t.count))

    head_numbers : walk (form_of p) read_head 3 start (numbers_at_front s) ≡ Took xs (numbers_in 1313 b)
    head_numbers = took_numbers p 3 most_numbers 1313 start s xs b (omega arith) f

    few : body_in p (final (form_of p) start xs) ≤ 1312
    few = let t = walk_took (form_of p) bytes 3 start s xs b f in body_few p q xs t.count t.good

    body_refused : rest (form_of p) bytes xs b ≡ Refused w → Refused_so
    unfolding form Refused_so Compared
    body_refused e =
        let t = walk_took (form_of p) bytes 3 start s xs b f in
        ⊎_elim
        (λ h. inl (rw (head_numbers, h.0), h.1))
        (λ h. inr (inl (record {
          early = rw (head_numbers, h.0);
          after = h.1.after;
          gives = rw numbers_front (gives_append bytes s xs b (numbers_in 1313 b) h.1.after t.gives h.1.gives);
          why = h.1.why;
        })))
        (refused_numbers p (body_in p (final (form_of p) start xs)) 1313 (final (form_of p) start xs) b w (omega (arith, few)) e)

    body_took : (ys c : List ℕ) → rest (form_of p) bytes xs b ≡ Took ys c → (c ≡ [] → ⊥) → w ≡ (refusals_of p).left → Refused_so
    unfolding form Refused_so
    body_took ys c e some d =
        go (bytes c) refl
      where
        k : ℕ
        k = body_in p (final (form_of p) start xs)

        more : numbers_in (suc (1312 - k)) c ≡ number_then (bytes c) (λ a. numbers_in (1312 - k) a)
        more = numbers_more (1312 - k) c

        body_numbers : rest (form_of p) read_head xs (numbers_in 1313 b) ≡ Took ys (numbers_in (suc (1312 - k)) c)
        body_numbers = took_numbers p k 1313 (suc (1312 - k)) (final (form_of p) start xs) b ys c (omega (arith, few)) e

        over : numbers_in (suc (1312 - k)) c ≡ [] → ((x : ℕ) (a : List ℕ) → bytes c ≡ Number x a → ⊥) → Refused_so
        over z none =
            let t = walk_took (form_of p) bytes 3 start s xs b f in
            let u = walk_took (form_of p) bytes k (final (form_of p) start xs) b ys c e in
            let n : numbers_at_front s ≡ xs ++ ys = numbers_front
            ∙ ap (λ (l : List ℕ). xs ++ l) (gives_numbers ys b c 1313 (suc (1312 - k)) u.gives (omega (arith, few, u.count))
            ∙ ap (λ (l : List ℕ). ys ++ l) z ∙ append-nil ys) in
            let o : form (form_of p) read_head (numbers_at_front s) ≡ Ok (xs ++ ys) = rw (head_numbers, body_numbers, z) in
            inr (inr (record {
              whole = o ∙ ap (λ (l : List ℕ). Ok l) (sym n);
              after = c;
              gives = rw n (gives_append bytes s xs b ys c t.gives u.gives);
              some = some;
              none = none;
              why = d;
            }))

        go : (r : Read) → bytes c ≡ r → Refused_so
        go (Number x a) g = inl (rw (head_numbers, body_numbers, more, g, d), λ z. left_not_ends p (sym d ∙ z))
        go Ends g = over (more ∙ rw g) (λ x a h. never cc)
        go TooLong g = over (more ∙ rw g) (λ x a h. never cc)
        go Padded g = over (more ∙ rw g) (λ x a h. never cc)

    body_refusal : (t : Taken) → rest (form_of p) bytes xs b ≡ t → closed (refusals_of p) (with xs t) ≡ Err w → Refused_so
    body_refusal (Refused v) g e = let d : v ≡ w = cc in body_refused (g ∙ ap Refused d)
    body_refusal (Took ys []) g e = never cc
    body_refusal (Took ys (a ∷ c)) g e = body_took ys (a ∷ c) g (λ z. never cc) (cc)

  head_refused : walk (form_of p) bytes 3 start s ≡ Refused w → Refused_so
  unfolding form Refused_so Compared
  head_refused e = ⊎_elim
      (λ h. inl (rw h.0, h.1))
      (λ h. inr (inl (record { early = rw h.0; after = h.1.after; gives = h.1.gives; why = h.1.why })))
      (refused_numbers p 3 most_numbers start s w (omega arith) e)

  refused_so : form (form_of p) bytes s ≡ Err w → Refused_so
  unfolding form
  refused_so e = go (walk (form_of p) bytes 3 start s) refl e
    where
      go : (t : Taken) → walk (form_of p) bytes 3 start s ≡ t → closed (refusals_of p) (next t (rest (form_of p) bytes)) ≡ Err w → Refused_so
      go (Refused v) f e = let d : v ≡ w = cc in head_refused (f ∙ ap Refused d)
      go (Took xs b) f e = body_refusal xs b f (rest (form_of p) bytes xs b) refl e

  -- The place of refused bytes is that of the number that decides the refusal, or the one after all numbers, where none can be read.
  pub bytes_fault : form (form_of p) bytes s ≡ Err w →
      Decides p (numbers_at_front s) w (number_of p s)
      ⊎ ((number_of p s ≡ length (numbers_at_front s)) × (Unread p s w ⊎ Over p s w))
  unfolding Refused_so
  bytes_fault e = ⊎_elim
      (λ h. ⊎_elim (λ x. absurd (h.1 x.0)) inl (first_fault p (numbers_at_front s) w h.0))
      (λ h. inr (⊎_elim
      (λ u. (⊎_elim (λ x. x.1) (λ x. absurd (x.other refl)) (first_fault p (numbers_at_front s) (refusals_of p).ends u.early), inl u))
      (λ o. (accepted_place p (numbers_at_front s) (numbers_at_front s) o.whole, inr o))
      h))
      (refused_so e)

-- What comes after all numbers begins at the byte of that place.
gives_packed : (xs a b : List ℕ) → Bytes a → Gives bytes a xs b → a ≡ pack xs ++ b
gives_packed [] a b h g = g
gives_packed (x ∷ xs) a b h g =
    let end = bytes-ending a x g.0 g.1 in
    let w : Bytes g.0 = rw end.same (λ i. rw (get_or-drop end.at a i 0) (h (end.at + i))) in
    (read_encodes groups a x g.0 h g.1).0 ∙ ap (λ (l : List ℕ). encode x ++ l) (gives_packed xs g.0 b w g.2)
    ∙ sym (append_assoc (encode x) (pack xs) b)

pub after-begins : (p : Document) (s after : List ℕ) → Bytes s → number_of p s ≡ length (numbers_at_front s) →
    Gives bytes s (numbers_at_front s) after → drop (beginning_of s (number_of p s)) s ≡ after
after-begins p s after h e g =
    let ns = numbers_at_front s in
    let f = gives_packed ns s after h g in
    rw (e, take-length ns)
    (ap (drop (length (pack ns))) f ∙ drop_at (pack ns) after (length (pack ns)) refl)
