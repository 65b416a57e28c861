-- A run over a source, a number at each turn, for any document and any source: what the loop of the walk keeps,
-- and that two runs, of the first three numbers and of those that they ask for, make a whole form.
use mathlib.Core.Path.{◌≡◌, refl, sym, ap, ◌∙◌}
use mathlib.Core.List.{List, [], ◌∷◌}
use Prim.Native.Nat.{ℕ, zero, suc, ◌+◌, ◌-◌, ◌≤◌, ◌<◌}
use native.Mathlib.Numerals.{add-one}
use native.Mathlib.Omega.{arith}
use borrow.Author.Tests.{lt-ltb, le-ltb}
use lib.ListN.{length, drop, length-drop, length-append}
use Rattle.checks.specs.declared.refusals.Document.{Document}
use Rattle.groups.specs.declared.Got.{Got}
use Rattle.documents.specs.declared.State.{State}
use Rattle.scanning.specs.declared.Reached.{Reached}
use Rattle.std.specs.Prelude.{Result, Ok, Err, IsErrAnd}
use Rattle.checks.specs.declared.refusals.Refusal.{Refusal}
use Rattle.checks.specs.Refusals.{Checked, refusals_of, giving}
use Rattle.groups.specs.Groups.{Read, Number, Ends, TooLong, Padded, placed}
use Rattle.documents.specs.Walk.{Source, Taken, Refused, Took, met, unless, with, next, closed, final, walk, rest, form}
use Rattle.documents.specs.State.{start}
use Rattle.documents.specs.Layout.{fault_in, after_in, body_in, form_of}
use Rattle.scanning.specs.Runs.{scanned, reached, begun, going, stepped, one_more, gone_on}
use Rattle.documents.specs.Bounds.{Known}
use Rattle.scanning.specs.Sources.{Ending}
use Rattle.scanning.specs.Runs.{closing}
use Rattle.documents.specs.Walk.{Gives}
use Rattle.grid.proofs.Cases.{never}
use Rattle.groups.proofs.Ends.{EndOf, end_self, end_trans, end_place, end_length}
use Rattle.documents.proofs.WalkLaws.{walk_none, walk_more, walk_took, form_parts}
use Rattle.documents.proofs.LayoutLaws.{known_after, start_known}

pub gives_ending : {read : Source} → Ending read → (a xs b : List ℕ) → Gives read a xs b → EndOf b a
gives_ending ending a [] b g = rw g (end_self b)
gives_ending ending a (x ∷ xs) b g = end_trans b g.0 a (gives_ending ending g.0 xs b g.2) (ending a x g.0 g.1)

-- What refuses a number refuses whatever comes of it.
pub refused_either : {A B : Type 0} (c : Checked) (a : A) (b : B) (w : Refusal) → Err w ≡ giving c a → Err w ≡ giving c b
refused_either (Ok _) a b w e = never cc
refused_either (Err v) a b w e = let q : w ≡ v = cc in rw q

-- What a `?` answers is what it met.
pub met_is : {A : Type 0} (r : Result A Refusal) (w : Refusal) → IsErrAnd r (λ v. v ≡ w) → r ≡ Err w
met_is (Ok a) w h = absurd h
met_is (Err v) w h = rw h

module _ (p : Document) (read : Source) (l : List ℕ) where
  -- After one number the state is known, one place on at most.
  abbrev Goes : State → Reached → Type 0
  Goes s r = Known r.state × (r.state.place ≤ s.place + 1)

  step_goes : (s : State) (g : Read) (r : Reached) → Known s → stepped p s (placed (length l) g) ≡ Ok r → Goes s r
  step_goes s (Number x rest) r k e = go (fault_in p s x) refl e
    where
      go : (c : Checked) → fault_in p s x ≡ c → giving c (reached (after_in p s x) (length l - length rest)) ≡ Ok r → Goes s r
      go (Ok _) f e =
          let a = known_after p s x k f in
          let q : r ≡ reached (after_in p s x) (length l - length rest) = cc in
          rw q (a.0, omega (arith, a.1))
      go (Err w) f e = never cc
  step_goes s Ends r k e = never cc
  step_goes s TooLong r k e = never cc
  step_goes s Padded r k e = never cc

  -- So it is after k numbers.
  pub gone_goes : (k : ℕ) (r q : Reached) → Known r.state → gone_on p read l k r ≡ Ok q →
      Known q.state × (q.state.place ≤ r.state.place + k)
  unfolding gone_on
  gone_goes zero r q h e = let same : q ≡ r = cc in rw same (h, omega arith)
  gone_goes (suc k) r q h e = go (λ m. gone_goes k m q) (one_more p read l r) refl e
    where
      go : ((m : Reached) → Known m.state → gone_on p read l k m ≡ Ok q → Known q.state × (q.state.place ≤ m.state.place + k)) →
          (n : Result Reached Refusal) → one_more p read l r ≡ n → going n (gone_on p read l k) ≡ Ok q →
          Known q.state × (q.state.place ≤ r.state.place + suc k)
      go more (Ok m) f e =
          let a = step_goes r.state (read (drop r.next l)) m h f in
          let g = more m a.0 e in
          (g.0, omega (arith, g.1, a.1))
      go more (Err w) f e = never cc

  pub head_goes : (head : Reached) → gone_on p read l 3 begun ≡ Ok head → Known head.state × (head.state.place ≤ 3)
  head_goes head e = gone_goes 3 begun head start_known e

  -- After k numbers: what the whole run comes to is what it comes to from here.
  pub record Running (count : ℕ) (from : Reached) (k : ℕ) (here : Reached) : Type 0 where
    pub turns : k ≤ count
    pub known : Known here.state
    pub place : here.state.place ≤ from.state.place + k
    pub same : gone_on p read l (count - k) here ≡ gone_on p read l count from

  pub running_starts : (count : ℕ) (from : Reached) → Known from.state → Running count from 0 from
  running_starts count from h =
      let e : count - 0 ≡ count = omega arith in record { turns = omega arith; known = h; place = omega arith; same = rw e }

  module _ {count : ℕ} {from : Reached} {k : ℕ} {here : Reached} (r : Running count from k here) where
    pub running_ends : count ≤ k → Ok here ≡ gone_on p read l count from
    unfolding gone_on
    running_ends h = let e : count - k ≡ 0 = omega arith in rw e at r.same

    at_next : k < count → going (one_more p read l here) (gone_on p read l (count - suc k)) ≡ gone_on p read l count from
    unfolding gone_on
    at_next h = let e : count - k ≡ suc (count - suc k) = omega arith in rw e at r.same

    pub running_refused : (got : Got) (w : Refusal) → k < count → got ≡ placed (length l) (read (drop here.next l)) →
        stepped p here.state got ≡ Err w → Err w ≡ gone_on p read l count from
    running_refused got w h g e =
        let n : one_more p read l here ≡ Err w = ap (stepped p here.state) (sym g) ∙ e in rw n at (at_next h)

    pub running_turns : (got : Got) (more : Reached) → k < count → got ≡ placed (length l) (read (drop here.next l)) →
        stepped p here.state got ≡ Ok more → Running count from (k + 1) more
    running_turns got more h g e =
        let n : one_more p read l here ≡ Ok more = ap (stepped p here.state) (sym g) ∙ e in
        let s = step_goes here.state (read (drop here.next l)) more r.known n in
        record {
          turns = omega arith;
          known = s.0;
          place = omega (arith, s.1, r.place);
          same = rw (add-one k) (rw n at (at_next h));
        }

  -- What was taken from a state, as a run.
  ran : State → Taken → Result Reached Refusal
  ran s (Refused w) = Err w
  ran s (Took xs b) = Ok (reached (final (form_of p) s xs) (length l - length b))

  ran_with : (s : State) (x : ℕ) (t : Taken) → ran (after_in p s x) t ≡ ran s (with (x ∷ []) t)
  unfolding ran
  ran_with s x (Refused w) = refl
  ran_with s x (Took xs b) = refl

  -- k numbers of a run from a place are what the walk takes there.
  abbrev Ran : ℕ → Type 0
  Ran k = (s : State) (at : ℕ) → at ≤ length l → gone_on p read l k (reached s at) ≡ ran s (walk (form_of p) read k s (drop at l))

  module _ (ending : Ending read) where
    ran_none : Ran 0
    unfolding gone_on ran
    ran_none s at h =
        rw (walk_none (form_of p) read s (drop at l), length-drop at l) (ap (λ (n : ℕ). Ok (reached s n)) (omega arith))

    ran_more : (k : ℕ) → Ran k → Ran (suc k)
    unfolding gone_on ran
    ran_more k same s at h = rw (walk_more (form_of p) read k s (drop at l)) (go (read (drop at l)) refl)
      where
        taken : (x : ℕ) (b : List ℕ) → EndOf b l → (c : Checked) →
            going (giving c (reached (after_in p s x) (length l - length b))) (gone_on p read l k)
            ≡ ran s (unless c (with (x ∷ []) (walk (form_of p) read k (after_in p s x) b)))
        taken x b d (Ok _) =
            same (after_in p s x) (length l - length b) (omega arith)
            ∙ ap (λ (c : List ℕ). ran (after_in p s x) (walk (form_of p) read k (after_in p s x) c)) (end_place b l d)
            ∙ ran_with s x (walk (form_of p) read k (after_in p s x) b)
        taken x b d (Err w) = refl

        go : (r : Read) → read (drop at l) ≡ r →
            going (stepped p s (placed (length l) r)) (gone_on p read l k)
            ≡ ran s (met (refusals_of p) r (λ x b. unless (fault_in p s x) (with (x ∷ []) (walk (form_of p) read k (after_in p s x) b))))
        go (Number x b) e =
            let here : EndOf (drop at l) l = record { at = at; within = h; same = refl } in
            taken x b (end_trans b (drop at l) l (ending (drop at l) x b e) here) (fault_in p s x)
        go Ends e = refl
        go TooLong e = refl
        go Padded e = refl

    gone_ran : (k : ℕ) → Ran k
    gone_ran zero = ran_none
    gone_ran (suc k) = ran_more k (gone_ran k)

    -- what follows the first numbers ys, which left b
    whole : (count : ℕ) (ys b : List ℕ) → length ys ≡ 3 → EndOf b l → (t : Taken) →
        walk (form_of p) read count (final (form_of p) start ys) b ≡ t →
        going (ran (final (form_of p) start ys) t) (closing p (length l) count) ≡ scanned (closed (refusals_of p) (with ys t))
    unfolding ran
    whole count ys b n d (Refused w) e = refl
    whole count ys b n d (Took zs []) e =
        let w = walk_took (form_of p) read count (final (form_of p) start ys) b zs [] e in
        rw (le-ltb (length l - 0) (length l) (omega arith)) (ap (λ (k : ℕ). Ok k) (omega (arith, length-append ys zs, n, w.count)))
    whole count ys b n d (Took zs (c ∷ r)) e =
        let w = walk_took (form_of p) read count (final (form_of p) start ys) b zs (c ∷ r) e in
        let h = end_length (c ∷ r) l (end_trans (c ∷ r) b l (gives_ending ending b zs (c ∷ r) w.gives) d) in
        rw (lt-ltb (length l - length (c ∷ r)) (length l) (omega (arith, h)))

    -- the numbers that the first three ask for, and the end
    abbrev pub body_run : Reached → Result ℕ Refusal
    body_run h = going (gone_on p read l (body_in p h.state) h) (closing p (length l) (body_in p h.state))

    closes : (t : Taken) → walk (form_of p) read 3 start l ≡ t →
        going (ran start t) body_run ≡ scanned (closed (refusals_of p) (next t (rest (form_of p) read)))
    unfolding ran
    closes (Refused w) e = refl
    closes (Took ys b) e =
        let u = final (form_of p) start ys in
        let w = walk_took (form_of p) read 3 start l ys b e in
        let d = gives_ending ending l ys b w.gives in
        let count = body_in p u in
        ap (λ (r : Result Reached Refusal). going r (closing p (length l) count))
        (gone_ran count u (length l - length b) (omega arith)
        ∙ ap (λ (a : List ℕ). ran u (walk (form_of p) read count u a)) (end_place b l d))
        ∙ whole count ys b w.count d (walk (form_of p) read count u b) refl

    -- Two runs make a form.
    pub scan_is : going (gone_on p read l 3 begun) body_run ≡ scanned (form (form_of p) read l)
    scan_is =
        rw (form_parts (form_of p) read l)
        (ap (λ (r : Result Reached Refusal). going r body_run) (gone_ran 3 start 0 (omega arith))
        ∙ closes (walk (form_of p) read 3 start l) refl)

    -- So an answer at each end of a scan is the form's: refused in the first numbers, in those that these ask for, for what is left, or whole.
    pub head_refused : (w : Refusal) → Err w ≡ gone_on p read l 3 begun → Err w ≡ scanned (form (form_of p) read l)
    head_refused w e = rw (sym e) at scan_is

    module _ (head : Reached) (count : ℕ) (is : Ok head ≡ gone_on p read l 3 begun) (n : count ≡ body_in p head.state) where
      from_head : going (gone_on p read l count head) (closing p (length l) count) ≡ scanned (form (form_of p) read l)
      from_head = rw n (rw (sym is) at scan_is)

      pub body_refused : (w : Refusal) → Err w ≡ gone_on p read l count head → Err w ≡ scanned (form (form_of p) read l)
      body_refused w e = rw (sym e) at from_head

      pub left_refused : (end : Reached) → Ok end ≡ gone_on p read l count head → end.next < length l →
          Err (refusals_of p).left ≡ scanned (form (form_of p) read l)
      left_refused end e h = rw (lt-ltb end.next (length l) h) at (rw (sym e) at from_head)

      pub read_whole : (end : Reached) → Ok end ≡ gone_on p read l count head → length l ≤ end.next →
          Ok (3 + count) ≡ scanned (form (form_of p) read l)
      read_whole end e h = rw (le-ltb end.next (length l) h) at (rw (sym e) at from_head)
