-- Copies with all of their block among some indices of a store go, one after another.
use Rattle.std.proofs.Common.{◌≡◌, ◌≢◌, ℕ, ◌<◌, ◌≤◌, Option, Some, None, IfSome, IsSome, option_map, arith, ⊎_elim, refl, sym, subst, ◌∙◌, ap}
use Rattle.std.proofs.lemmas.Bool.{cases_eq}
use Rattle.sk_ranges.specs.declared.state.State.TheVariants.{Stale, Owner}
use Rattle.sk_spaces.specs.declared.step.Step.TheVariants as line
use Rattle.sk_spaces.specs.Machine.{Machine, Home, CopyState, live, frees_at}
use Rattle.sk_spaces.specs.Rules.{IsThere, IsLegal, after}
use Rattle.sk_copy_states.specs.declared.held.Held.{Held}
use Rattle.sk_copy_states.specs.Held.{IsFit, mark_of}
use Rattle.sk_copy_states.specs.Copies.{LiesAmong, home_in, home_store, store_in, state_in}
use Rattle.sk_copy_states.specs.Stores.{StoreView, len_in}
use Rattle.sk_copy_states.proofs.InBlock.{in_block}
use Rattle.sk_coherence_laws.specs.Directory.{DirectoryView, copy_at, store_at, IsSound, LiesInside}
use Rattle.sk_coherence_laws.specs.Traced.{IsLike}
use Rattle.sk_coherence_laws.specs.Frees.{FreesCopy}
use Rattle.sk_coherence_laws.specs.Serves.{unlisted}
use Rattle.sk_coherence_laws.specs.Retires.{Thins, IsFreeing, IsLikeBut, Leads}
use Rattle.sk_coherence_laws.proofs.StateLemmas.{owner_not_stale}
use Rattle.sk_coherence_laws.proofs.OpenLemmas.{some_of}
use Rattle.sk_coherence_laws.proofs.TracedWrite.{live_of}
use Rattle.sk_coherence_laws.proofs.LegalMoves.{not_owner_mark}
use Rattle.sk_coherence_laws.proofs.PlacedLemmas.{placed-like, like-placed}
use Rattle.sk_coherence_laws.proofs.ServesLemmas.{there_or}
use Rattle.sk_coherence_laws.proofs.FreeLemmas.{placed-free, copy_left, cells_left}
use Rattle.sk_coherence_laws.proofs.LeadsLemmas.{leads-one}

-- a copy that lies so is there
pub among_there : (o : Option Held) (s lo hi : ℕ) → LiesAmong s lo hi (home_in o) → IsSome o
among_there None s lo hi is = absurd is
among_there (Some held) s lo hi is = refl

readable_there : (o : Option Held) (i : ℕ) → state_in o i ≢ Stale → IsSome o
readable_there None i readable = absurd (readable refl)
readable_there (Some held) i readable = refl

-- one of a store with all of its block among all of the store's indices is any of its copies
pub among_all : (d : DirectoryView) (s len : ℕ) (o : Option Home) → LiesInside d o → home_store o ≡ Some s
    → len_in (store_at d s) ≤ len → LiesAmong s 0 len o
among_all d s len None inside is all = cc
among_all d s len (Some home) inside is all =
    let e : home.store ≡ s = grind arith in
    (e, omega arith, omega (arith, inside.1, all, ap (λ (x : ℕ). len_in (store_at d x)) e))

pub store_among : (s lo hi : ℕ) (o : Option Home) → LiesAmong s lo hi o → home_store o ≡ Some s
store_among s lo hi None is = absurd is
store_among s lo hi (Some home) is = ap Some is.0

module _ (d n : DirectoryView) (id s : ℕ) (st now : StoreView) (lo hi : ℕ) (sound : IsSound d) (f : FreesCopy d n id s st now)
    (among : LiesAmong s lo hi (home_in (copy_at d id))) where
  same_store : (t : ℕ) → option_map unlisted (store_at n t) ≡ option_map unlisted (store_at d t)
  same_store t = ⊎_elim
      (λ (e : t ≡ s). subst (λ (x : ℕ). option_map unlisted (store_at n x) ≡ option_map unlisted (store_at d x)) (sym e)
      (ap (option_map unlisted) f.stores.here ∙ ap (λ (x : StoreView). Some (unlisted x)) f.loses.same ∙ sym (ap (option_map unlisted) f.store)))
      (λ (ne : t ≢ s). ap (option_map unlisted) (f.stores.others t ne))
      (cases_eq t s)

  pub thins-free : Thins d n s lo hi
  thins-free = record {
    stays = λ q not. f.copies.others q (λ e. not (subst (λ (x : ℕ). LiesAmong s lo hi (home_in (copy_at d x))) (sym e) among));
    there = copy_left d n id s st now sound f;
    cells = cells_left d n id s st now sound f;
    stores = same_store;
    others = λ t ne. f.stores.others t ne;
    next = f.next;
    owed = f.owed;
    named = f.named;
    messages = f.messages;
    aside = f.aside;
    next_copy = f.memories.next;
    ranks = f.memories.ranks;
    capacity = f.memories.capacity;
  }

  before : (q : ℕ) → IsSome (copy_at n q) → LiesAmong s lo hi (home_in (copy_at n q)) → LiesAmong s lo hi (home_in (copy_at d q))
  before q some = subst (λ (o : Option Held). LiesAmong s lo hi (home_in o)) (copy_left d n id s st now sound f q some)

  after_it : (q : ℕ) → IsSome (copy_at n q) → LiesAmong s lo hi (home_in (copy_at d q)) → LiesAmong s lo hi (home_in (copy_at n q))
  after_it q some = subst (λ (o : Option Held). LiesAmong s lo hi (home_in o)) (sym (copy_left d n id s st now sound f q some))

  but_at : (m : Machine) → IsLikeBut s lo hi m d → (home : Home) → home_in (copy_at d id) ≡ Some home → IsLikeBut s lo hi (frees_at (live home) id m) n
  but_at m l home is = record {
    placed = placed-free d n id s st now sound f m l.placed home is;
    marks = λ q i some not. let e = copy_left d n id s st now sound f q some in
        l.marks q i (subst (λ (o : Option Held). IsSome o) e some) (λ x. not (after_it q some x)) ∙ ap (λ o. mark_of (state_in o i)) (sym e);
    cells = λ q i not readable. let some = readable_there (copy_at n q) i readable in let e = copy_left d n id s st now sound f q some in
        l.cells q i (λ x. not (after_it q some x)) (λ x. readable (ap (λ o. state_in o i) e ∙ x))
        ∙ ap (λ o. Rattle.sk_copy_states.specs.Copies.cell_in o i) (sym (cells_left d n id s st now sound f q some));
    owned = λ q i x. l.owned q i (before q (among_there (copy_at n q) s lo hi x) x);
  }

  frees_but : (m : Machine) → IsLikeBut s lo hi m d → IsLegal m (line.Free id) × IsLikeBut s lo hi (after m (line.Free id)) n × IsFreeing s lo hi m (line.Free id)
  frees_but m l =
      let t = live_of (m.copies id) (copy_at d id) (l.placed.copies id) (among_there (copy_at d id) s lo hi among) in (
        (
          some_of m.memory _ l.placed.memory,
          (subst (λ (k : CopyState). IsThere k (λ home. Unit {0})) (sym t.1) tt, λ i. l.owned id i among),
        ),
        subst (λ (k : CopyState). IsLikeBut s lo hi (frees_at k id m) n) (sym t.1) (but_at m l t.0 t.2),
        subst (λ (k : CopyState). IsThere k (λ home. LiesAmong s lo hi (Some home))) (sym t.1) (subst (LiesAmong s lo hi) t.2 among),
      )

  pub leads-free : Leads (IsFreeing s lo hi) (λ m. IsLikeBut s lo hi m d) (λ m. IsLikeBut s lo hi m n) d n
  leads-free = leads-one (IsFreeing s lo hi) (λ m. IsLikeBut s lo hi m d) (λ m. IsLikeBut s lo hi m n) d n (line.Free id) f.noted
      (λ m l. let x = frees_but m l in (x.0, x.1))
      (λ m l. (frees_but m l).2)
      (λ m l. refl)

pub thins-none : (d : DirectoryView) (s lo hi : ℕ) → Thins d d s lo hi
thins-none d s lo hi = record {
  stays = λ q not. refl;
  there = λ q some. refl;
  cells = λ q some. refl;
  stores = λ t. refl;
  others = λ t ne. refl;
  next = refl;
  owed = refl;
  named = refl;
  messages = refl;
  aside = refl;
  next_copy = refl;
  ranks = refl;
  capacity = refl;
}

pub thins-trans : (a b n : DirectoryView) (s lo hi : ℕ) → Thins a b s lo hi → Thins b n s lo hi → Thins a n s lo hi
thins-trans a b n s lo hi x y = record {
  stays = λ q not. let e = x.stays q not in
      y.stays q (λ is. not (subst (λ (o : Option Held). LiesAmong s lo hi (home_in o)) e is)) ∙ e;
  there = λ q some. let e = y.there q some in e ∙ x.there q (subst (λ (o : Option Held). IsSome o) e some);
  cells = λ q some. y.cells q some ∙ x.cells q (subst (λ (o : Option Held). IsSome o) (y.there q some) some);
  stores = λ t. y.stores t ∙ x.stores t;
  others = λ t ne. y.others t ne ∙ x.others t ne;
  next = y.next ∙ x.next;
  owed = y.owed ∙ x.owed;
  named = y.named ∙ x.named;
  messages = y.messages ∙ x.messages;
  aside = y.aside ∙ x.aside;
  next_copy = y.next_copy ∙ x.next_copy;
  ranks = y.ranks ∙ x.ranks;
  capacity = y.capacity ∙ x.capacity;
}

-- where no copy lies so, the machine is like the directory
pub like-but : (s lo hi : ℕ) (m : Machine) (d : DirectoryView) → ((q : ℕ) → LiesAmong s lo hi (home_in (copy_at d q)) → ⊥) → IsLikeBut s lo hi m d → IsLike m d
like-but s lo hi m d none l = like-placed m d l.placed (λ q i some. l.marks q i some (none q)) (λ q i readable. l.cells q i (none q) readable)

-- and where the copies that lie so own nothing, the other way round
pub but-like : (s lo hi : ℕ) (m : Machine) (d : DirectoryView) → ((q i : ℕ) → LiesAmong s lo hi (home_in (copy_at d q)) → state_in (copy_at d q) i ≢ Owner)
    → IsLike m d → IsLikeBut s lo hi m d
but-like s lo hi m d none l = record {
  placed = placed-like m d l;
  marks = λ q i some not. l.marks q i some;
  cells = λ q i not readable. l.cells q i readable;
  owned = λ q i is e. not_owner_mark (state_in (copy_at d q) i) (none q i is) (sym (l.marks q i (among_there (copy_at d q) s lo hi is)) ∙ e);
}

-- a copy that lies so and is stale at these indices owns nothing
pub none_among : (o : Option Held) (s lo hi : ℕ) → IfSome o IsFit → LiesAmong s lo hi (home_in o) → ((i : ℕ) → lo ≤ i → i < hi → state_in o i ≡ Stale)
    → (i : ℕ) → state_in o i ≢ Owner
none_among None s lo hi fit is stale i own = absurd is
none_among (Some held) s lo hi fit is stale i own =
    let w = in_block held i fit (λ e. owner_not_stale (sym own ∙ e)) in
    owner_not_stale (sym own ∙ stale i (omega (arith, is.1, w.0)) (omega (arith, is.2, w.1)))

-- a copy that lay so is gone once none lies so
pub gone_among : (a n : DirectoryView) (s lo hi : ℕ) → Thins a n s lo hi → ((q : ℕ) → LiesAmong s lo hi (home_in (copy_at n q)) → ⊥)
    → (q : ℕ) → LiesAmong s lo hi (home_in (copy_at a q)) → copy_at n q ≡ None
gone_among a n s lo hi t none q is = ⊎_elim
    (λ (some : IsSome (copy_at n q)). absurd (none q (subst (λ (o : Option Held). LiesAmong s lo hi (home_in o)) (sym (t.there q some)) is)))
    (λ (e : copy_at n q ≡ None). e)
    (there_or (copy_at n q))
