-- Calls one after another, the last one at the end: the list, the first refusal and the market after them.
-- Assumes nothing.
use Rattle.std.specs.Prelude.{Result, Ok, Err}
use Rattle.checks.specs.declared.refusals.Refusal.{Refusal}
use Prim.Native.Nat.{ℕ, suc, ◌+◌, ◌*◌, ◌/◌, ◌≤◌, ◌<◌}
use mathlib.Core.Path.{◌≡◌, refl, sym, subst, ap, ◌∙◌}
use mathlib.Core.List.{List, [], ◌∷◌, ◌++◌}
use native.Mathlib.Omega.{arith}
use borrow.Author.Tests.{ne_eqb, le-leb, lt-leb}
use lib.ListN.{get_or, length}
use Rattle.checks.specs.Refusals.{Checked, first}
use Rattle.open_market.specs.declared.held.Market.{Market}
use Rattle.ticket_calls.specs.Calls.{Call, NoCall, refusal_of, after, after_all, first_refusal}
use Rattle.open_market.specs.Lists.{call_of, call_from, first_calls, calls_of}
use Rattle.grid.proofs.Cases.{never}
use Rattle.ticket_calls.proofs.RefusalLaws.{after_refused}
use Rattle.open_market.specs.Markets.{Answered, Called, Next, Reached, Replayed, market_after}
use Rattle.open_market.proofs.MarketLaws.{always_holds}

after_last : (cs : List Call) (c : Call) (l : List ℕ) → after_all (cs ++ (c ∷ [])) l ≡ after c (after_all cs l)
after_last [] c l = refl
after_last (d ∷ cs) c l = after_last cs c (after d l)

first-first : (u v w : Checked) → first (first u v) w ≡ first u (first v w)
first-first (Ok _) v w = refl
first-first (Err u) v w = refl

pub first-none : (v : Checked) → first v (Ok tt) ≡ v
first-none (Ok tt) = refl
first-none (Err v) = refl

refusal_last : (cs : List Call) (c : Call) (l : List ℕ) →
    first_refusal (cs ++ (c ∷ [])) l ≡ first (first_refusal cs l) (refusal_of c (after_all cs l))
refusal_last [] c l = first-none (refusal_of c l)
refusal_last (d ∷ cs) c l =
    ap (first (refusal_of d l)) (refusal_last cs c (after d l))
    ∙ sym (first-first (refusal_of d l) (first_refusal cs (after d l)) (refusal_of c (after_all cs (after d l))))

reached_append : (cs ds : List Call) (market mid last : Market) → Reached market cs mid → Reached mid ds last → Reached market (cs ++ ds) last
reached_append [] ds market mid last e r = subst (λ (m : Market). Reached m ds last) (sym e) r
reached_append (c ∷ cs) ds market mid last p r = (p.0, p.1, reached_append cs ds (market_after p.0 market) mid last p.2 r)

reached_last : (cs : List Call) (c : Call) (market mid : Market) (r : Result Market Refusal) (last : Market) → Reached market cs mid →
    Called c mid r → last ≡ market_after r mid → Reached market (cs ++ (c ∷ [])) last
reached_last cs c market mid r last p q e = reached_append cs (c ∷ []) market mid last p (r, q, sym e)

-- A call by the kind that its first number says, and one that is cut short.
pub kind_called : (kind k p : ℕ) (l : List ℕ) (market : Market) (r : Result Market Refusal) → kind ≡ k → Called (call_of k l p) market r →
    Called (call_of kind l p) market r
kind_called kind k p l market r e d = subst (λ (q : ℕ). Called (call_of q l p) market r) (sym e) d

pub no_kind : (kind p : ℕ) (l : List ℕ) → (kind ≡ 1 → ⊥) → (kind ≡ 2 → ⊥) → (kind ≡ 3 → ⊥) → call_of kind l p ≡ NoCall
no_kind kind p l a b c = rw (ne_eqb kind 1 a, ne_eqb kind 2 b, ne_eqb kind 3 c)

pub whole_called : (l : List ℕ) (p : ℕ) (market : Market) (r : Result Market Refusal) → p + 8 ≤ length l → Called (call_of (get_or l p 0) l p) market r →
    Called (call_from l p) market r
whole_called l p market r h d = rw (le-leb (p + 8) (length l) h) d

pub cut_called : (l : List ℕ) (p : ℕ) (market : Market) (r : Result Market Refusal) → length l < p + 8 → Called NoCall market r →
    Called (call_from l p) market r
cut_called l p market r h d = rw (lt-leb (p + 8) (length l) h) d

-- The ticket after a call.
call-ticket : (c : Call) (market : Market) (r : Result Market Refusal) → Called c market r →
    (market_after r market).ticket ≡ after c market.ticket
call-ticket c market r called = go (refusal_of c market.ticket) refl called
  where
    go : (w : Checked) → refusal_of c market.ticket ≡ w → Answered w (after c market.ticket) r →
        (market_after r market).ticket ≡ after c market.ticket
    go (Ok _) e a = rw a.1 a.2.ticket_held
    go (Err w) e a = rw a (sym (after_refused c market.ticket w e))

-- Calls were done.
pub record Done (market : Market) (cs : List Call) (told : Checked) (last : Market) : Type 0 where
  pub refusal : told ≡ first_refusal cs market.ticket
  pub ticket : last.ticket ≡ after_all cs market.ticket
  pub reached : Reached market cs last

done_last : (market : Market) (cs : List Call) (c : Call) (before : Checked) (mid : Market) (refusal : Checked) (last : Market) →
    Done market cs before mid → Next c before mid refusal last → Done market (cs ++ (c ∷ [])) refusal last
done_last market cs c before mid refusal last d n = record {
  refusal = n.refusal ∙ rw (d.refusal, d.ticket) (sym (refusal_last cs c market.ticket));
  ticket =
      ap (λ (m : Market). m.ticket) n.after
      ∙ call-ticket c mid n.answer n.called
      ∙ rw d.ticket (sym (after_last cs c market.ticket));
  reached = reached_last cs c market mid n.answer last d.reached n.called n.after;
}

-- The first calls of a list.
no_calls : (calls : List ℕ) → first_calls calls 0 ≡ []
unfolding first_calls
no_calls calls = refl

more_calls : (calls : List ℕ) (k : ℕ) → first_calls calls (suc k) ≡ first_calls calls k ++ (call_from calls (8 * k) ∷ [])
unfolding first_calls
more_calls calls k = refl

pub done_none : (market : Market) (calls : List ℕ) → Done market (first_calls calls 0) (Ok tt) market
done_none market calls =
    subst (λ (cs : List Call). Done market cs (Ok tt) market) (sym (no_calls calls))
    (record { refusal = refl; ticket = refl; reached = refl })

pub done_more : (market : Market) (calls : List ℕ) (k : ℕ) (before : Checked) (mid : Market) (refusal : Checked) (last : Market) →
    Done market (first_calls calls k) before mid → Next (call_from calls (8 * k)) before mid refusal last →
    Done market (first_calls calls (k + 1)) refusal last
done_more market calls k before mid refusal last d n =
    let e : k + 1 ≡ suc k = omega arith in
    subst (λ (cs : List Call). Done market cs refusal last) (sym (ap (first_calls calls) e ∙ more_calls calls k))
    (done_last market (first_calls calls k) (call_from calls (8 * k)) before mid refusal last d n)

pub done_all : (market : Market) (calls : List ℕ) (k : ℕ) (refusal : Checked) (last : Market) → k ≡ (length calls + 7) / 8 →
    Done market (first_calls calls k) refusal last → Replayed market calls refusal last
done_all market calls k refusal last e d =
    let a = subst (λ (q : ℕ). Done market (first_calls calls q) refusal last) e d in
    record {
      refusal = a.refusal;
      ticket = a.ticket;
      kept = record {
        reached = a.reached;
        holds = λ file xs opened before u o p.
            always_holds file xs opened (before ++ calls_of calls) last u o
            (reached_append before (calls_of calls) opened market last p a.reached);
      };
    }

-- One call more, by its answer.
module _ (c : Call) (before : Checked) (market : Market) (r : Result Market Refusal) (called : Called c market r) where
  pub next_done : (next : Market) → r ≡ Ok next → Next c before market before next
  next_done next e = record {
    answer = r;
    called = called;
    refusal = go (refusal_of c market.ticket) refl called;
    after = rw e;
  }
    where
      go : (w : Checked) → refusal_of c market.ticket ≡ w → Answered w (after c market.ticket) r →
          before ≡ first before (refusal_of c market.ticket)
      go (Ok _) f a = rw f (sym (first-none before))
      go (Err w) f a = let g : Ok next ≡ Err w = sym e ∙ a in never cc

  pub next_refused : (w : Refusal) (refusal : Checked) → r ≡ Err w → refusal ≡ first before (Err w) → Next c before market refusal market
  next_refused w refusal e f = record {
    answer = r;
    called = called;
    refusal = f ∙ go (refusal_of c market.ticket) refl called;
    after = rw e;
  }
    where
      go : (v : Checked) → refusal_of c market.ticket ≡ v → Answered v (after c market.ticket) r →
          first before (Err w) ≡ first before (refusal_of c market.ticket)
      go (Ok _) g a = let h : Err w ≡ Ok a.0 = sym e ∙ a.1 in never cc
      go (Err v) g a = let h : ◌≡◌ {A = Result Market Refusal} (Err w) (Err v) = sym e ∙ a in
          let same : w ≡ v = cc in rw g (ap (λ (u : Refusal). first before (Err u)) same)
