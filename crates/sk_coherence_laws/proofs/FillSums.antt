-- Room in the journal, and then a fill.
use Rattle.std.proofs.Common.{ℕ, ◌<◌, ◌≤◌, arith, ⊎_elim, sym, ◌∙◌, ap}
use Rattle.std.proofs.lemmas.Bool.{cases_lt}
use Rattle.sk_spaces.specs.declared.step.Step.{Step}
use Rattle.sk_spaces.specs.declared.step.Step.TheVariants.{Copy}
use Rattle.sk_spaces.specs.Machine.{Machine}
use Rattle.sk_copy_states.specs.Copies.{home_store}
use Rattle.sk_coherence_laws.specs.Directory.{DirectoryView, copy_at, IsSound}
use Rattle.sk_coherence_laws.specs.Traced.{IsLike, TracesStep}
use Rattle.sk_coherence_laws.specs.Moves.{CanMove, Fills, IsStaleAt, IsSourceAt, Idles}
use Rattle.sk_copy_states.specs.Sources.{MayRead}
use Rattle.sk_coherence_laws.specs.Owned.{HasOwnerAt}
use Rattle.sk_coherence_laws.specs.Serves.{Serves, GrowsAt}
use Rattle.sk_coherence_laws.specs.Steps.{Traces, IsFill, AreFilled}
use Rattle.sk_coherence_laws.proofs.StateLemmas.{valid_not_stale}
use Rattle.sk_coherence_laws.proofs.KeptLemmas.{like-kept}
use Rattle.sk_coherence_laws.proofs.ServesLemmas.{serves-trans, serves-idle, serves-fill, grows-idle, grows-fill, grows-trans}
use Rattle.sk_coherence_laws.proofs.TracesLemmas.{traces-none, traces-one, traces-trans, far_same, is-fill}

pub like-idle : (d n : DirectoryView) → Idles d n → (m : Machine) → IsLike m d → IsLike m n
like-idle d n i m l = like-kept d n i.copies m i.spaces.memories i.stores i.next i.messages l

-- what leaves the directory as it was notes no step
pub traces-idle : (P : Machine → Step → Type 0) (d n : DirectoryView) → Idles d n → Traces P d n
traces-idle P d n i = traces-none P d n i.spaces.journal (like-idle d n i)

pub idle-trans : (a b n : DirectoryView) → Idles a b → Idles b n → Idles a n
idle-trans a b n x y = record {
  copies = λ q. record {
    home = (y.copies q).home ∙ (x.copies q).home;
    expected = (y.copies q).expected ∙ (x.copies q).expected;
    fit = λ fit. (y.copies q).fit ((x.copies q).fit fit);
    room = omega (arith, (x.copies q).room, (y.copies q).room);
    states = λ i. (y.copies q).states i ∙ (x.copies q).states i;
  };
  pins = λ q. y.pins q ∙ x.pins q;
  stores = λ t. y.stores t ∙ x.stores t;
  next = y.next ∙ x.next;
  owed = y.owed ∙ x.owed;
  named = y.named ∙ x.named;
  ready = omega (arith, x.ready, y.ready);
  messages = y.messages ∙ x.messages;
  aside = y.aside ∙ x.aside;
  spaces = record {
    memories = y.spaces.memories ∙ x.spaces.memories;
    named = y.spaces.named ∙ x.spaces.named;
    journal = record { steps = y.spaces.journal.steps ∙ x.spaces.journal.steps; totals = y.spaces.journal.totals ∙ x.spaces.journal.totals };
    spare = omega (arith, x.spaces.spare, y.spaces.spare);
  };
}

module _ (a b n : DirectoryView) (from to lo hi : ℕ) (sa : IsSound a) (sb : IsSound b) (i : Idles a b)
    (can : CanMove b from to lo hi) (missing : IsStaleAt b to lo hi) (f : Fills b n from to lo hi) (t : TracesStep b n (Copy from to lo hi)) where
  pub sum-serves : Serves a n
  sum-serves = serves-trans a b n sa (serves-idle a b i) (serves-fill b n from to lo hi f missing)

  pub sum-traced : lo < hi → IsSourceAt b from to lo hi → AreFilled a n to lo hi
  sum-traced some source home lies = traces-trans (IsFill home lo hi) a b n (traces-idle (IsFill home lo hi) a b i)
      (traces-one (IsFill home lo hi) b n (Copy from to lo hi) f.rest.noted t
      (λ m l. is-fill m b from to lo hi home l can.source can.target ((i.copies to).home ∙ lies) some missing source)
      (λ m l. far_same m b from to sb l))

  pub sum-grows : (q : ℕ) → GrowsAt a n q
  sum-grows q = grows-trans a b n q (grows-idle a b i q) (grows-fill b n from to lo hi f missing q)

  pub sum-read : (start : ℕ) → MayRead (copy_at a to) start lo → MayRead (copy_at n to) start hi
  sum-read start before k above below = ⊎_elim
      (λ (x : k < lo). (sum-grows to).readable k (before k above x))
      (λ (x : lo ≤ k). λ e. valid_not_stale (sym (f.target.states.inside k x below) ∙ e))
      (cases_lt k lo)

-- an index that has an owner has one still
pub owner-carried : (a b : DirectoryView) (copy i : ℕ) → Serves a b → GrowsAt a b copy → HasOwnerAt a copy i → HasOwnerAt b copy i
owner-carried a b copy i x g o = let h = x.owned o.0 i o.2 in (h.at, h.store ∙ o.1 ∙ sym (ap home_store g.home), h.owns)

-- what might be read before a place may be read still, and so may what was filled from there on
pub read-more : (a b : DirectoryView) (copy start mid end : ℕ) → GrowsAt a b copy → MayRead (copy_at a copy) start mid → MayRead (copy_at b copy) mid end
    → MayRead (copy_at b copy) start end
read-more a b copy start mid end g before filled k above below = ⊎_elim
    (λ (x : k < mid). g.readable k (before k above x))
    (λ (x : mid ≤ k). filled k x below)
    (cases_lt k mid)
