-- Indices of a store become stale, and the copies with all of their block among them go.
use Rattle.std.proofs.Common.{◌≡◌, ◌≢◌, ℕ, Option, Some, option_map, arith, refl, inl, inr, sym, subst, ◌∙◌, ap}
use Rattle.sk_ranges.specs.declared.state.State.{State}
use Rattle.sk_ranges.specs.declared.state.State.TheVariants as state
use Rattle.sk_spaces.specs.declared.step.Step.TheVariants.{Stale}
use Rattle.sk_spaces.specs.Rules.{after}
use Rattle.sk_spaces.specs.Memories.{block_of}
use Rattle.sk_copy_states.specs.declared.held.Held.{Held}
use Rattle.sk_copy_states.specs.Copies.{SetsAt, KeepsStates, LiesAmong, home_in, home_store, store_in, state_in, pins_in}
use Rattle.sk_copy_states.specs.Stores.{store_of}
use Rattle.sk_coherence_laws.specs.Directory.{DirectoryView, copy_at, IsSound}
use Rattle.sk_coherence_laws.specs.Traced.{IsLike, TracesStep}
use Rattle.sk_coherence_laws.specs.Moves.{Idles}
use Rattle.sk_coherence_laws.specs.Serves.{unlisted}
use Rattle.sk_coherence_laws.specs.Steps.{Traces}
use Rattle.sk_coherence_laws.specs.Retires.{Stales, Thins, Retires, IsFreeing, IsRetiring, IsLikeBut, Leads}
use Rattle.sk_coherence_laws.proofs.FillSums.{traces-idle}
use Rattle.sk_coherence_laws.proofs.TracesLemmas.{traces-trans}
use Rattle.sk_coherence_laws.proofs.MailLemmas.{spoilt-between}
use Rattle.sk_coherence_laws.proofs.StaleLemmas.{homes}
use Rattle.sk_coherence_laws.proofs.LeadsLemmas.{leads-trans, leads-map, leads-end, leads-one, traces-leads}
use Rattle.sk_coherence_laws.proofs.LeaveLemmas.{store_among, but-like, like-but, none_among, gone_among}

-- a copy as it was before its room grew
sets_kept : (o p w : Option Held) (lo hi : ℕ) (to : State) → KeepsStates o p → pins_in p ≡ pins_in o → SetsAt p w lo hi to → SetsAt o w lo hi to
sets_kept o p w lo hi to k pins y = record {
  home = y.home ∙ k.home;
  pins = y.pins ∙ pins;
  expected = y.expected ∙ k.expected;
  fit = λ fit. y.fit (k.fit fit);
  room = omega (arith, k.room, y.room);
  states = record {
    before = λ i b. y.states.before i b ∙ k.states i;
    inside = y.states.inside;
    after = λ i b. y.states.after i b ∙ k.states i;
  };
}

module _ (a j t n : DirectoryView) (s lo hi : ℕ) (sound : IsSound t) (i : Idles a j) (r : Stales j t s lo hi) (step : TracesStep j t (Stale s lo hi))
    (th : Thins t n s lo hi) (none : (q : ℕ) → LiesAmong s lo hi (home_in (copy_at n q)) → ⊥)
    (x : Leads (IsFreeing s lo hi) (λ m. IsLikeBut s lo hi m t) (λ m. IsLikeBut s lo hi m n) t n) where
  home_t : (q : ℕ) → home_in (copy_at t q) ≡ home_in (copy_at a q)
  home_t q = homes j t s lo hi r.states r.spaces.memories q ∙ (i.copies q).home

  from_t : (q : ℕ) → LiesAmong s lo hi (home_in (copy_at t q)) → LiesAmong s lo hi (home_in (copy_at a q))
  from_t q = subst (LiesAmong s lo hi) (home_t q)

  to_t : (q : ℕ) → LiesAmong s lo hi (home_in (copy_at a q)) → LiesAmong s lo hi (home_in (copy_at t q))
  to_t q = subst (LiesAmong s lo hi) (sym (home_t q))

  store_j : (q : ℕ) → store_in (copy_at a q) ≡ Some s → store_in (copy_at j q) ≡ Some s
  store_j q e = ap home_store (i.copies q).home ∙ e

  own_none : (q k : ℕ) → LiesAmong s lo hi (home_in (copy_at t q)) → state_in (copy_at t q) k ≢ state.Owner
  own_none q k is = none_among (copy_at t q) s lo hi (sound.fit q) is
      (r.states.staled q (ap home_store (sym (homes j t s lo hi r.states r.spaces.memories q)) ∙ store_among s lo hi (home_in (copy_at t q)) is)).states.inside k

  -- a copy of another store
  other_t : (q : ℕ) → store_in (copy_at a q) ≢ Some s → copy_at n q ≡ copy_at j q
  other_t q ne = th.stays q (λ is. ne (store_among s lo hi (home_in (copy_at a q)) (from_t q is)))
      ∙ r.states.others q (λ e. ne (ap home_store (sym (i.copies q).home) ∙ e))

  pub retired : Retires a n s lo hi
  retired = record {
    gone = λ q is. gone_among t n s lo hi th none q (to_t q is);
    staled = λ q not e. subst (λ (o : Option Held). SetsAt (copy_at a q) o lo hi state.Stale) (sym (th.stays q (λ is. not (from_t q is))))
        (sets_kept (copy_at a q) (copy_at j q) (copy_at t q) lo hi state.Stale (i.copies q) (i.pins q) (r.states.staled q (store_j q e)));
    kept = λ q ne. subst (λ (o : Option Held). KeepsStates (copy_at a q) o) (sym (other_t q ne)) (i.copies q);
    pins = λ q ne. ap pins_in (other_t q ne) ∙ i.pins q;
    cells = λ q some. th.cells q some ∙ ap (λ y. block_of y q) r.spaces.memories ∙ ap (λ y. block_of y q) i.spaces.memories;
    stores = λ u. th.stores u ∙ ap (option_map unlisted) (ap (λ y. store_of y u) r.stores) ∙ ap (option_map unlisted) (i.stores u);
    others = λ u ne. th.others u ne ∙ ap (λ y. store_of y u) r.stores ∙ i.stores u;
    next = th.next ∙ r.next ∙ i.next;
    owed = th.owed ∙ r.owed ∙ i.owed;
    named = th.named ∙ r.named ∙ i.named;
    messages = spoilt-between a.messages j.messages t.messages n.messages s lo hi i.messages r.messages th.messages;
    aside = th.aside ∙ r.aside ∙ i.aside;
    next_copy = th.next_copy ∙ ap (λ y. y.next) r.spaces.memories ∙ ap (λ y. y.next) i.spaces.memories;
    ranks = th.ranks ∙ ap (λ y. y.ranks) r.spaces.memories ∙ ap (λ y. y.ranks) i.spaces.memories;
    capacity = th.capacity ∙ ap (λ y. y.capacity) r.spaces.memories ∙ ap (λ y. y.capacity) i.spaces.memories;
  }

  first : Leads (IsRetiring s lo hi) (λ m. IsLike m j) (λ m. IsLikeBut s lo hi m t) j t
  first = leads-one (IsRetiring s lo hi) (λ m. IsLike m j) (λ m. IsLikeBut s lo hi m t) j t (Stale s lo hi) r.spaces.noted
      (λ m l. let z = step m l in (z.0, but-like s lo hi (after m (Stale s lo hi)) t own_none z.1))
      (λ m l. inl (refl, refl, refl))
      (λ m l. refl)

  then : Leads (IsRetiring s lo hi) (λ m. IsLikeBut s lo hi m t) (λ m. IsLike m n) t n
  then = leads-end (IsRetiring s lo hi) (λ m. IsLikeBut s lo hi m t) (λ m. IsLikeBut s lo hi m n) (λ m. IsLike m n) t n
      (λ m l. like-but s lo hi m n none l)
      (leads-map (IsFreeing s lo hi) (IsRetiring s lo hi) (λ m. IsLikeBut s lo hi m t) (λ m. IsLikeBut s lo hi m n) t n (λ m step is. inr is) x)

  pub retired-traced : Traces (IsRetiring s lo hi) a n
  retired-traced = traces-trans (IsRetiring s lo hi) a j n (traces-idle (IsRetiring s lo hi) a j i)
      (traces-leads (IsRetiring s lo hi) j n
      (leads-trans (IsRetiring s lo hi) (λ m. IsLike m j) (λ m. IsLikeBut s lo hi m t) (λ m. IsLike m n) j t n first then))
