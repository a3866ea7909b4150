-- Steps that follow one another.
use Rattle.std.proofs.Common.{◌≡◌, ℕ, ◌<◌, ◌≤◌, List, [], ◌∷◌, ◌++◌, Option, Some, None, IsSome, option_map, arith, ⊎_elim, refl, inl, inr, sym, subst, ◌∙◌, ap, append_assoc}
use Rattle.std.proofs.lemmas.Grind.{common_steps}
use Rattle.sk_spaces.specs.declared.step.Step.{Step}
use Rattle.sk_spaces.specs.declared.step.Step.TheVariants.{Copy}
use Rattle.sk_spaces.specs.declared.totals.Totals.{Totals}
use Rattle.sk_spaces.specs.Journal.{with_step, with_last, IsSame}
use Rattle.sk_spaces.specs.Machine.{Machine, Home, CopyState, unused, live, freed}
use Rattle.sk_spaces.specs.Rules.{IsLegal, after, after_all}
use Rattle.sk_spaces.specs.Blocks.{BlockView}
use Rattle.sk_spaces.specs.Memories.{are_far, is_far}
use Rattle.sk_spaces.specs.Spaces.{NotesStep}
use Rattle.sk_copy_states.specs.declared.held.Held.{Held}
use Rattle.sk_copy_states.specs.Held.{mark_of}
use Rattle.sk_copy_states.specs.Copies.{home_in}
use Rattle.sk_coherence_laws.specs.Directory.{DirectoryView, copy_at, cells_of_copy, block_home, IsSound}
use Rattle.sk_coherence_laws.specs.Traced.{IsLike, TracesStep, live_home}
use Rattle.sk_coherence_laws.specs.Moves.{IsStaleAt, OwnsAt, AreNear, IsStaleNear, IsSourceAt}
use Rattle.sk_coherence_laws.specs.Steps.{Traces, AreDone, goes_far, lie_apart, counted, IsAbsent, IsStaleBeside, IsSource, IsFill, AreFilled}

pub done-append : (P : Machine → Step → Type 0) (m : Machine) (xs ys : List Step) → AreDone P m xs → AreDone P (after_all m xs) ys → AreDone P m (xs ++ ys)
done-append P m [] ys x y = y
done-append P m (step ∷ xs) ys x y = (x.0, x.1, done-append P (after m step) xs ys x.2 y)

pub after_all-append : (m : Machine) (xs ys : List Step) → after_all m (xs ++ ys) ≡ after_all (after_all m xs) ys
after_all-append m [] ys = refl
after_all-append m (step ∷ xs) ys = after_all-append (after m step) xs ys

pub counted-append : (m : Machine) (xs ys : List Step) (totals : Totals) → counted m (xs ++ ys) totals ≡ counted (after_all m xs) ys (counted m xs totals)
counted-append m [] ys totals = refl
counted-append m (step ∷ xs) ys totals = counted-append (after m step) xs ys (with_step step (goes_far m step) totals)

assoc : (xs ys zs : List Step) → (xs ++ ys) ++ zs ≡ xs ++ (ys ++ zs)
assoc xs ys zs = append_assoc xs ys zs

pub told-append : (o : Option (List Step)) (xs ys : List Step) → option_map (λ done. done ++ ys) (option_map (λ done. done ++ xs) o) ≡ option_map (λ done. done ++ (xs ++ ys)) o
told-append None xs ys = refl
told-append (Some done) xs ys = ap Some (assoc done xs ys)

pub told-none : (o : Option (List Step)) → o ≡ option_map (λ done. done ++ []) o
told-none None = refl
told-none (Some done) = ap Some (grind (arith, common_steps))

pub told-one : (o : Option (List Step)) (step : Step) → with_last o step ≡ option_map (λ done. done ++ step ∷ []) o
told-one None step = refl
told-one (Some done) step = refl

pub done-map : (P Q : Machine → Step → Type 0) → ((m : Machine) (step : Step) → P m step → Q m step) → (m : Machine) (xs : List Step) → AreDone P m xs → AreDone Q m xs
done-map P Q more m [] x = tt
done-map P Q more m (step ∷ xs) x = (x.0, more m step x.1, done-map P Q more (after m step) xs x.2)

-- no step
pub traces-none : (P : Machine → Step → Type 0) (d n : DirectoryView) → IsSame d.spaces.journal n.spaces.journal
    → ((m : Machine) → IsLike m d → IsLike m n) → Traces P d n
traces-none P d n same like = record {
  steps = [];
  told = same.steps ∙ told-none d.spaces.journal.steps;
  done = λ m l. (tt, like m l);
  counted_all = λ m l. same.totals;
}

-- one step
pub traces-one : (P : Machine → Step → Type 0) (d n : DirectoryView) (step : Step) → NotesStep d.spaces n.spaces step → TracesStep d n step
    → ((m : Machine) → IsLike m d → P m step) → ((m : Machine) → IsLike m d → goes_far m step ≡ is_far d.spaces.memories step) → Traces P d n
traces-one P d n step noted traced why far = record {
  steps = step ∷ [];
  told = noted.steps ∙ told-one d.spaces.journal.steps step;
  done = λ m l. let t = traced m l in ((t.0, why m l, tt), t.1);
  counted_all = λ m l. noted.totals ∙ ap (λ b. with_step step b d.spaces.journal.totals) (sym (far m l));
}

-- some steps and then some more
pub traces-trans : (P : Machine → Step → Type 0) (a b n : DirectoryView) → Traces P a b → Traces P b n → Traces P a n
traces-trans P a b n x y = record {
  steps = x.steps ++ y.steps;
  told = y.told ∙ ap (option_map (λ done. done ++ y.steps)) x.told ∙ told-append a.spaces.journal.steps x.steps y.steps;
  done = λ m l. let p = x.done m l in let q = y.done (after_all m x.steps) p.1 in (
    done-append P m x.steps y.steps p.0 q.0,
    subst (λ (k : Machine). IsLike k n) (sym (after_all-append m x.steps y.steps)) q.1,
  );
  counted_all = λ m l. let p = x.done m l in
      y.counted_all (after_all m x.steps) p.1 ∙ ap (counted (after_all m x.steps) y.steps) (x.counted_all m l)
      ∙ sym (counted-append m x.steps y.steps a.spaces.journal.totals);
}

pub traces-map : (P Q : Machine → Step → Type 0) (a b : DirectoryView) → ((m : Machine) (step : Step) → P m step → Q m step) → Traces P a b → Traces Q a b
traces-map P Q a b more x = record {
  steps = x.steps;
  told = x.told;
  done = λ m l. let p = x.done m l in (done-map P Q more m x.steps p.0, p.1);
  counted_all = x.counted_all;
}

-- what is so of each step where it comes, by what stays so of the machine
done-with : (P Q : Machine → Step → Type 0) (I : Machine → Type 0) → ((m : Machine) (step : Step) → I m → IsLegal m step → P m step → Q m step × I (after m step))
    → (m : Machine) (xs : List Step) → I m → AreDone P m xs → AreDone Q m xs
done-with P Q I more m [] holds x = tt
done-with P Q I more m (step ∷ xs) holds x = let t = more m step holds x.0 x.1 in (x.0, t.0, done-with P Q I more (after m step) xs t.1 x.2)

pub traces-with : (P Q : Machine → Step → Type 0) (I : Machine → Type 0) (a b : DirectoryView) → ((m : Machine) → IsLike m a → I m)
    → ((m : Machine) (step : Step) → I m → IsLegal m step → P m step → Q m step × I (after m step)) → Traces P a b → Traces Q a b
traces-with P Q I a b start more x = record {
  steps = x.steps;
  told = x.told;
  done = λ m l. let p = x.done m l in (done-with P Q I more m x.steps (start m l) p.0, p.1);
  counted_all = x.counted_all;
}

apart_same : (k j : CopyState) (a b : Option BlockView) → live_home k ≡ block_home a → live_home j ≡ block_home b → lie_apart k j ≡ are_far a b
apart_same (live h) (live g) (Some a) (Some b) x y =
    let one : h.space ≡ a.space = grind arith in
    let other : g.space ≡ b.space = grind arith in
    rw (one, other) refl
apart_same (live h) (live g) (Some a) None x y = cc
apart_same (live h) (live g) None b x y = cc
apart_same (live h) unused (Some a) (Some b) x y = cc
apart_same (live h) unused (Some a) None x y = refl
apart_same (live h) unused None b x y = refl
apart_same (live h) freed (Some a) (Some b) x y = cc
apart_same (live h) freed (Some a) None x y = refl
apart_same (live h) freed None b x y = refl
apart_same unused j (Some a) b x y = cc
apart_same unused j None b x y = refl
apart_same freed j (Some a) b x y = cc
apart_same freed j None b x y = refl

-- two copies are as far from one another in the machine
pub far_same : (m : Machine) (d : DirectoryView) (from to : ℕ) → IsSound d → IsLike m d
    → lie_apart (m.copies from) (m.copies to) ≡ are_far (cells_of_copy d from) (cells_of_copy d to)
far_same m d from to s l = apart_same (m.copies from) (m.copies to) (cells_of_copy d from) (cells_of_copy d to)
    (l.copies from ∙ sym (s.tied from)) (l.copies to ∙ sym (s.tied to))

pub some_near : (o p : Option Held) → AreNear (home_in o) (home_in p) → IsSome o
some_near None p near = absurd near
some_near (Some o) p near = refl

-- a copy that is stale if it is near another one is so in the machine
stale_beside : (m : Machine) (d : DirectoryView) (to lo hi q i : ℕ) → IsLike m d → IsStaleNear d to lo hi q → lo ≤ i → i < hi → IsStaleBeside m to i q
stale_beside m d to lo hi q i l missing above below near =
    let here : AreNear (home_in (copy_at d q)) (home_in (copy_at d to))
    = subst (λ (h : Option Home). AreNear (home_in (copy_at d q)) h) (l.copies to) (subst (λ (h : Option Home). AreNear h (live_home (m.copies to))) (l.copies q) near) in
    l.marks q i (some_near (copy_at d q) (copy_at d to) here) ∙ ap mark_of (missing here i above below)

-- the copy from which an index is filled is that one in the machine
source-in : (m : Machine) (d : DirectoryView) (from to lo hi i : ℕ) → IsLike m d → IsSome (copy_at d from) → IsSourceAt d from to lo hi → lo ≤ i → i < hi → IsSource m from to i
source-in m d from to lo hi i l there source above below = ⊎_elim
    (λ (n : AreNear (home_in (copy_at d from)) (home_in (copy_at d to)) × ((q : ℕ) → q < from → IsStaleNear d to lo hi q)). inl (
      subst (λ (h : Option Home). AreNear (live_home (m.copies from)) h) (sym (l.copies to)) (subst (λ (h : Option Home). AreNear h (home_in (copy_at d to))) (sym (l.copies from)) n.0),
      λ q less. stale_beside m d to lo hi q i l (n.1 q less) above below,
    ))
    (λ (o : OwnsAt d from lo hi × ((q : ℕ) → IsStaleNear d to lo hi q)). inr (
      l.marks from i there ∙ ap mark_of (o.0 i above below),
      λ q. stale_beside m d to lo hi q i l (o.1 q) above below,
    ))
    source

-- what does not lie in the directory does not in the machine
pub is-absent : (m : Machine) (d : DirectoryView) (home : Home) → IsLike m d → ((q : ℕ) → home_in (copy_at d q) ≡ Some home → ⊥) → IsAbsent home m
is-absent m d home l none q lies = none q (sym (l.copies q) ∙ lies)

-- stale indices are stale in the machine, and are filled from the copy from which they have to come
pub is-fill : (m : Machine) (d : DirectoryView) (from to lo hi : ℕ) (home : Home) → IsLike m d → IsSome (copy_at d from) → IsSome (copy_at d to)
    → home_in (copy_at d to) ≡ Some home → lo < hi → IsStaleAt d to lo hi → IsSourceAt d from to lo hi → IsFill home lo hi m (Copy from to lo hi)
is-fill m d from to lo hi home l some there lies ordered missing source = record {
  source = from;
  target = to;
  lo = lo;
  hi = hi;
  step_is = refl;
  target_home = l.copies to ∙ lies;
  above = omega arith;
  some = ordered;
  below = omega arith;
  missing = λ i above below. l.marks to i there ∙ ap mark_of (missing i above below);
  sources = λ i above below. source-in m d from to lo hi i l some source above below;
}

-- what is filled among fewer indices is filled among more
pub same-fill : (home : Home) (from to less more : ℕ) → less ≤ from → to ≤ more → (m : Machine) (step : Step) (f : IsFill home from to m step)
    → (g : IsFill home less more m step) × (g.lo ≡ f.lo) × (g.hi ≡ f.hi)
same-fill home from to less more above below m step f = (
  record {
    source = f.source;
    target = f.target;
    lo = f.lo;
    hi = f.hi;
    step_is = f.step_is;
    target_home = f.target_home;
    above = omega (arith, above, f.above);
    some = f.some;
    below = omega (arith, below, f.below);
    missing = f.missing;
    sources = f.sources;
  },
  refl,
  refl,
)

pub fill-wider : (home : Home) (from to less more : ℕ) → less ≤ from → to ≤ more → (m : Machine) (step : Step) → IsFill home from to m step → IsFill home less more m step
fill-wider home from to less more above below m step f = (same-fill home from to less more above below m step f).0

pub filled-wider : (a b : DirectoryView) (copy from to less more : ℕ) → less ≤ from → to ≤ more → AreFilled a b copy from to → AreFilled a b copy less more
filled-wider a b copy from to less more above below f home lies =
    traces-map (IsFill home from to) (IsFill home less more) a b (fill-wider home from to less more above below) (f home lies)

-- filled, and then filled again
pub filled-trans : (a b n : DirectoryView) (copy from to : ℕ) → home_in (copy_at b copy) ≡ home_in (copy_at a copy) → AreFilled a b copy from to → AreFilled b n copy from to
    → AreFilled a n copy from to
filled-trans a b n copy from to same f g home lies = traces-trans (IsFill home from to) a b n (f home lies) (g home (same ∙ lies))
