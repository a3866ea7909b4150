-- Messages that are left to do, found one after another.
use Rattle.std.proofs.Common.{◌≡◌, ◌≢◌, ℕ, ◌+◌, ◌<◌, ◌≤◌, List, [], ◌∷◌, ◌++◌, Option, Some, None, IfSome, IfNone, IsSome, option_to_list, not, ◌==◌, false, arith, ⊎_elim, refl, inl, inr, sym, subst, ◌∙◌, ap, IsSomeAnd, if◌then◌else◌, Bool}
use Rattle.std.proofs.lemmas.Bool.{cases_eq, cases_lt}
use Rattle.sk_ranges.specs.declared.state.State.TheVariants.{Stale}
use Rattle.sk_spaces.specs.declared.step.Step.{Step}
use Rattle.sk_spaces.specs.declared.step.Step.TheVariants.{Copy}
use Rattle.sk_spaces.specs.Machine.{Machine, Home, CopyState, live, stale, is_within, filled_mark}
use Rattle.sk_spaces.specs.Rules.{after}
use Rattle.sk_copies.specs.declared.Transfer.{Transfer}
use Rattle.sk_copy_states.specs.declared.held.Held.{Held}
use Rattle.sk_copy_states.specs.Held.{mark_of}
use Rattle.sk_copy_states.specs.Copies.{KeepsStates, ReachesIn, home_in, home_store, store_in, state_in}
use Rattle.sk_copy_states.specs.Sources.{LiesIn, MayRead, NoneNear}
use Rattle.sk_copy_states.specs.Stores.{copies_in}
use Rattle.sk_coherence_laws.specs.Directory.{DirectoryView, copy_at, store_at, IsSound}
use Rattle.sk_coherence_laws.specs.Moves.{CanMove, Fills, Idles, IsStaleAt, IsSourceAt, AreNear}
use Rattle.sk_coherence_laws.specs.Adds.{Places}
use Rattle.sk_coherence_laws.specs.HostBlocks.{home_at, IsHostHome, IsHostHomeOf}
use Rattle.sk_coherence_laws.specs.Serves.{Serves, GrowsAt}
use Rattle.sk_coherence_laws.specs.Acquires.{PinsOne}
use Rattle.sk_coherence_laws.specs.Steps.{Traces, IsAlloc, IsFill, IsWanting, AreFilled, lie_apart}
use Rattle.sk_coherence_laws.specs.Traced.{IsLike, TracesStep, live_home}
use Rattle.sk_coherence_laws.proofs.TracedWrite.{some_home, live_of, and_no}
use Rattle.sk_coherence_laws.proofs.TracesLemmas.{traces-map, traces-with, traces-trans, traces-one, far_same, is-fill, fill-wider, same-fill}
use Rattle.sk_coherence_laws.proofs.OpenLemmas.{replaced_here, replaced_else, eq_no}
use Rattle.sk_coherence_laws.proofs.HostLemmas.{if_some_map, Makes, MakesHosts, index-was, host-was, home-of-on, home-of-same}
use Rattle.sk_coherence_laws.proofs.FillSums.{traces-idle}
use Rattle.sk_coherence_laws.proofs.ServesLemmas.{grows-trans, idle-none}
use Rattle.sk_coherence_laws.proofs.KeptLemmas.{keeps_all}
use Rattle.sk_coherence_laws.proofs.SourceLemmas.{readable_there, some_eq}
use Rattle.sk_coherence_laws.proofs.AcquireLemmas.{home_there, reaches_home}
use Rattle.sk_coherence.specs.Evicts.{IsFar, IsIn, IsOnHost, KeepsFar, MakesHostBlocks}
use Rattle.sk_coherence.specs.Later.{LieTogether, IsAlone, IsToSend, AreLeft, IsLooked, IsFillBeside, IsHostAlloc, IsHostFill, IsHostServing, IsLater, IsServingLater, IsDueLater, AreFilledBeside, AreServedLater, AreHosted}
use Rattle.sk_coherence.specs.Room.{IsMakingWay, MakesOnly}
use Rattle.sk_coherence.proofs.LeftLemmas.{only-placed, only-on-host, hosts-made}
use Rattle.sk_coherence.proofs.RetreatLemmas.{reaches_on, spaces_apart}

-- a copy that is not filled keeps its states
pub kept-fill : (a b n : DirectoryView) (from to lo hi q : ℕ) → Idles a b → Fills b n from to lo hi → q ≢ to → KeepsStates (copy_at a q) (copy_at n q)
kept-fill a b n from to lo hi q i f ne = subst (λ (o : Option Held). KeepsStates (copy_at a q) o) (sym (f.others q ne)) (i.copies q)

pub before-fill : (a b n : DirectoryView) (from to lo hi i : ℕ) → Idles a b → Fills b n from to lo hi → i < lo → state_in (copy_at n to) i ≡ state_in (copy_at a to) i
before-fill a b n from to lo hi i idle f below = f.target.states.before i below ∙ (idle.copies to).states i

-- what is made are blocks of the host, so it lies there
pub on-host : (a b : DirectoryView) → MakesHostBlocks a b → (q : ℕ) → copy_at a q ≡ None → IsOnHost (copy_at b q)
on-host a b made q none = if_some_map (home_in (copy_at b q)) (IsHostHome a) (λ home. home.space ≡ 0) (λ home h. h.host) (made q none)

-- copies that lie where they did lie in one space still
together-on : (o p x y : Option Held) → home_in x ≡ home_in o → home_in y ≡ home_in p → LieTogether x y → LieTogether o p
together-on o p x y one other t = (
  t.0,
  subst (λ (h : Option Home). IfSome h (λ home. home.space ≡ t.0)) one t.1,
  subst (λ (h : Option Home). IfSome h (λ home. home.space ≡ t.0)) other t.2,
)

-- what lies in one space with a copy on a rank lies on a rank
far-together : (o p : Option Held) → IsSome p → IsFar p → LieTogether o p → IsFar o
far-together None p there far t = tt
far-together (Some o) None there far t = cc
far-together (Some o) (Some p) there far t = omega (arith, far, t.1, t.2)

-- and so it does not lie on the host
stale-together : (o p : Option Held) (i : ℕ) → IsOnHost o → IsSome p → IsFar p → LieTogether o p → state_in o i ≡ Stale
stale-together None p i host there far t = refl
stale-together (Some o) None i host there far t = cc
stale-together (Some o) (Some p) i host there far t = absurd (omega (arith, host, far, t.1, t.2))

-- a copy that keeps its states, beside one that lies where it did
alone-kept : (a b : DirectoryView) (copy q lo hi : ℕ) → KeepsStates (copy_at a q) (copy_at b q) → home_in (copy_at b copy) ≡ home_in (copy_at a copy)
    → IsAlone a copy lo hi → q ≢ copy → store_in (copy_at b q) ≡ store_in (copy_at b copy) → LieTogether (copy_at b q) (copy_at b copy) → IsStaleAt b q lo hi
alone-kept a b copy q lo hi k home alone ne store t i above below =
    k.states i
    ∙ alone q ne (ap home_store (sym k.home) ∙ store ∙ ap home_store home) (together-on (copy_at a q) (copy_at a copy) (copy_at b q) (copy_at b copy) k.home home t) i above below

-- other copies on ranks keep their states, and copies that are made meanwhile lie on the host
module _ (a b : DirectoryView) (copy : ℕ) (there : IsSome (copy_at a copy)) (far : IsFar (copy_at a copy))
    (homes : (q : ℕ) → IsSome (copy_at a q) → home_in (copy_at b q) ≡ home_in (copy_at a q)) (kept : KeepsFar a b copy) (made : MakesHostBlocks a b) where
  there_on : IsSome (copy_at b copy)
  there_on = some_home (copy_at a copy) (copy_at b copy) (sym (homes copy there)) there

  far_on : IsFar (copy_at b copy)
  far_on = subst (λ (h : Option Home). IfSome h (λ home. 0 < home.space)) (sym (homes copy there)) far

  kept_of : (q : ℕ) → q ≢ copy → IsSome (copy_at a q) → LieTogether (copy_at b q) (copy_at b copy) → KeepsStates (copy_at a q) (copy_at b q)
  kept_of q ne some t = kept q ne some
      (subst (λ (h : Option Home). IfSome h (λ home. 0 < home.space)) (homes q some) (far-together (copy_at b q) (copy_at b copy) there_on far_on t))

  alone-of : (lo hi q : ℕ) (o : Option Held) → copy_at a q ≡ o → IsAlone a copy lo hi → q ≢ copy → store_in (copy_at b q) ≡ store_in (copy_at b copy)
      → LieTogether (copy_at b q) (copy_at b copy) → IsStaleAt b q lo hi
  alone-of lo hi q None is alone ne store t i above below = stale-together (copy_at b q) (copy_at b copy) i (on-host a b made q is) there_on far_on t
  alone-of lo hi q (Some held) is alone ne store t i above below =
      alone-kept a b copy q lo hi (kept_of q ne (subst (λ (o : Option Held). IsSome o) (sym is) refl) t) (homes copy there) alone ne store t i above below

  pub alone-on : (lo hi : ℕ) → IsAlone a copy lo hi → IsAlone b copy lo hi
  alone-on lo hi alone q = alone-of lo hi q (copy_at a q) refl alone

pub alone-less : (d : DirectoryView) (copy lo less hi : ℕ) → less ≤ hi → IsAlone d copy lo hi → IsAlone d copy lo less
alone-less d copy lo less hi within alone q ne store t i above below = alone q ne store t i above (omega (arith, below, within))

-- copies that were not there, and lie as they did, were not made
pub made-grows : (a b : DirectoryView) (P : Home → Type 0) → ((q : ℕ) → GrowsAt a b q) → Makes a b P
made-grows a b P grows q none = subst (λ (h : Option Home). IfSome h P) (sym ((grows q).home ∙ ap home_in none)) tt

lies_with : (o p : Option Held) (s space : ℕ) → store_in o ≡ Some s → IsSome p → IsIn space p → LieTogether o p → LiesIn space o
lies_with None p s space store there mine t = cc
lies_with (Some o) None s space store there mine t = cc
lies_with (Some o) (Some p) s space store there mine t = t.1 ∙ sym t.2 ∙ mine

-- where no listed copy of the space may be read
pub alone-near : (d : DirectoryView) (s space to lo hi : ℕ) → IsSound d → store_in (copy_at d to) ≡ Some s → IsSome (copy_at d to) → IsIn space (copy_at d to)
    → NoneNear (copy_at d) (copies_in (store_at d s)) space lo hi → IsAlone d to lo hi
alone-near d s space to lo hi sound home there mine none q ne store t i above below =
    let k = sound.complete s q (store ∙ home) in
    let lies : LiesIn space (copy_at d q) = lies_with (copy_at d q) (copy_at d to) s space (store ∙ home) there mine t in
    subst (λ (x : ℕ). state_in (copy_at d x) i ≡ Stale) k.2 (none k.0 k.1 (subst (λ (x : ℕ). LiesIn space (copy_at d x)) (sym k.2) lies) i above below)

pub if-none-map : {A : Type 0} (o : Option A) (P Q : Type 0) → (P → Q) → IfNone o P → IfNone o Q
if-none-map None P Q more is = more is
if-none-map (Some x) P Q more is = tt

reaches_grown : (o p : Option Held) (lo hi : ℕ) → home_in p ≡ home_in o → ReachesIn o lo hi → ReachesIn p lo hi
reaches_grown o p lo hi same is = reaches_on o p lo hi hi same (omega arith) is

some_and : {A : Type 0} (o : Option A) (P Q : A → Type 0) → ((x : A) → P x → Q x) → IsSomeAnd o P → IsSomeAnd o Q
some_and None P Q more is = absurd is
some_and (Some x) P Q more is = more x is

-- copies lie where they did, and what might be read in them may be read still; states below an index are as before in one of them
module _ (a b : DirectoryView) (copy mid : ℕ) (homes : (q : ℕ) → IsSome (copy_at a q) → home_in (copy_at b q) ≡ home_in (copy_at a q))
    (reads : (q i : ℕ) → state_in (copy_at a q) i ≢ Stale → state_in (copy_at b q) i ≢ Stale)
    (same : (i : ℕ) → i < mid → state_in (copy_at b copy) i ≡ state_in (copy_at a copy) i)
    (beside : (lo hi : ℕ) → IsAlone a copy lo hi → IsAlone b copy lo hi)
    (hosts : (i : ℕ) (home : Home) → IsHostHomeOf a i home → IsHostHomeOf b i home) where
  read-on : (lo hi : ℕ) → hi ≤ mid → MayRead (copy_at a copy) lo hi → MayRead (copy_at b copy) lo hi
  read-on lo hi below r i above under e = r i above under (sym (same i (omega (arith, under, below))) ∙ e)

  can-still : (from to lo hi : ℕ) → CanMove a from to lo hi → CanMove b from to lo hi
  can-still from to lo hi c = record {
    source = some_home (copy_at a from) (copy_at b from) (sym (homes from c.source)) c.source;
    target = some_home (copy_at a to) (copy_at b to) (sym (homes to c.target)) c.target;
    store = ap home_store (homes from c.source) ∙ c.store ∙ sym (ap home_store (homes to c.target));
    apart = c.apart;
    from_reaches = reaches_grown (copy_at a from) (copy_at b from) lo hi (homes from c.source) c.from_reaches;
    to_reaches = reaches_grown (copy_at a to) (copy_at b to) lo hi (homes to c.target) c.to_reaches;
    readable = λ i above below. reads from i (c.readable i above below);
  }

  send-on : (t : Transfer) → t.range.hi ≤ mid → IsToSend a copy t → IsToSend b copy t
  send-on t below s = record {
    to = s.to;
    host = subst (λ (h : Option Home). IfSome h (λ home. home.space ≡ 0)) (sym (homes t.from.id s.can.source)) s.host;
    block = subst (λ (h : Option Home). IsSomeAnd h (IsHostHomeOf b t.range.lo)) (sym (homes t.from.id s.can.source))
        (some_and (home_in (copy_at a t.from.id)) (IsHostHomeOf a t.range.lo) (IsHostHomeOf b t.range.lo) (hosts t.range.lo) s.block);
    some = s.some;
    can = can-still t.from.id copy t.range.lo t.range.hi s.can;
    stale = λ i above under. same i (omega (arith, under, below)) ∙ s.stale i above under;
    alone = beside t.range.lo t.range.hi s.alone;
  }

  -- what was left before is left still
  pub left-on : (lo hi : ℕ) (ts : List Transfer) → hi ≤ mid → AreLeft a copy lo hi ts → AreLeft b copy lo hi ts
  left-on lo hi [] below l = read-on lo hi below l
  left-on lo hi (t ∷ ts) below l =
      let within : t.range.hi ≤ mid = omega (arith, l.2, below) in
      let first : t.range.lo ≤ mid = omega (arith, l.0.some, within) in (
        send-on t within l.0,
        l.1,
        l.2,
        read-on lo t.range.lo first l.3,
        left-on t.range.hi hi ts below l.4,
      )

read-both : (o : Option Held) (lo mid hi : ℕ) → MayRead o lo mid → MayRead o mid hi → MayRead o lo hi
read-both o lo mid hi x y i above below = ⊎_elim (λ (u : i < mid). x i above u) (λ (u : mid ≤ i). y i u below) (cases_lt i mid)

-- more may be read
left-read : (d : DirectoryView) (copy lo mid hi : ℕ) (ts : List Transfer) → mid ≤ hi → AreLeft d copy lo mid ts → MayRead (copy_at d copy) mid hi → AreLeft d copy lo hi ts
left-read d copy lo mid hi [] below l r = read-both (copy_at d copy) lo mid hi l r
left-read d copy lo mid hi (t ∷ ts) below l r = (l.0, l.1, omega (arith, l.2, below), l.3, left-read d copy t.range.hi mid hi ts below l.4 r)

-- one message more
left-send : (d : DirectoryView) (copy lo mid : ℕ) (ts : List Transfer) (t : Transfer) → lo ≤ mid → AreLeft d copy lo mid ts → IsToSend d copy t → mid ≤ t.range.lo
    → MayRead (copy_at d copy) mid t.range.lo → AreLeft d copy lo t.range.hi (ts ++ t ∷ [])
left-send d copy lo mid [] t from l s above r =
    (s, omega (arith, from, above), omega arith, read-both (copy_at d copy) lo mid t.range.lo l r, λ i up down. absurd (omega (arith, up, down)))
left-send d copy lo mid (u ∷ us) t from l s above r =
    (l.0, l.1, omega (arith, l.2, above, s.some), l.3, left-send d copy u.range.hi mid us t l.2 l.4 s above r)

-- what was looked at, added to what was left before
left-more : (d : DirectoryView) (copy lo mid end hi : ℕ) (ts : List Transfer) (t : Option Transfer) → lo ≤ mid → AreLeft d copy lo mid ts → IsLooked d copy mid end hi t
    → AreLeft d copy lo hi (ts ++ option_to_list t)
left-more d copy lo mid end hi ts None from l is = subst (AreLeft d copy lo hi) (sym (append_nil ts)) (left-read d copy lo mid hi ts (omega (arith, is.0)) l is.2)
  where
    append_nil : (xs : List Transfer) → xs ++ [] ≡ xs
    append_nil [] = refl
    append_nil (x ∷ xs) = ap (λ (ys : List Transfer). x ∷ ys) (append_nil xs)
left-more d copy lo mid end hi ts (Some t) from l is = subst (λ (h : ℕ). AreLeft d copy lo h (ts ++ t ∷ [])) is.2 (left-send d copy lo mid ts t from l is.0 is.1 is.4)

pub looked-bounds : (d : DirectoryView) (copy lo end hi : ℕ) (t : Option Transfer) → IsLooked d copy lo end hi t → (lo < hi) × (hi ≤ end)
looked-bounds d copy lo end hi None is = (is.0, is.1)
looked-bounds d copy lo end hi (Some t) is = (omega (arith, is.1, is.2, is.0.some), is.3)

-- what was left before a step is left after it, and what was looked at in it is added
pub left-step : (a b : DirectoryView) (copy lo mid end hi : ℕ) (ts : List Transfer) (t : Option Transfer) → ((q : ℕ) → IsSome (copy_at a q) → GrowsAt a b q)
    → ((i : ℕ) → i < mid → state_in (copy_at b copy) i ≡ state_in (copy_at a copy) i) → IsSome (copy_at a copy) → IsFar (copy_at a copy) → KeepsFar a b copy → MakesHostBlocks a b
    → Serves a b → lo ≤ mid → AreLeft a copy lo mid ts → IsLooked b copy mid end hi t
    → AreLeft b copy lo hi (ts ++ option_to_list t)
left-step a b copy lo mid end hi ts t grows same there far kept made x from l is = left-more b copy lo mid end hi ts t from
    (left-on a b copy mid (λ q some. (grows q some).home) (λ q i r. (grows q (readable_there (copy_at a q) i r)).readable i r) same
    (alone-on a b copy there far (λ q some. (grows q some).home) kept made)
    (home-of-on a b x (hosts-made a b made)) lo mid ts (omega arith) l) is

keeps_pinned : (o p : Option Held) → IsSome o → IfSome o (λ held. p ≡ Some (record held { pins = held.pins + 1 })) → KeepsStates o p
keeps_pinned None p there is = cc
keeps_pinned (Some held) p there is = subst (λ (x : Option Held). KeepsStates (Some held) x) (sym is) (record {
  home = refl;
  expected = refl;
  fit = λ fit. record { ordered = fit.ordered; states = fit.states };
  room = omega arith;
  states = λ i. refl;
})

-- and it is left once the copy is pinned
pub left-pinned : (a b : DirectoryView) (copy lo hi : ℕ) (ts : List Transfer) → IsSome (copy_at a copy) → PinsOne a b copy → AreLeft a copy lo hi ts → AreLeft b copy lo hi ts
left-pinned a b copy lo hi ts there p l =
    let kept = keeps_all (copy_at a) (copy_at b) copy (keeps_pinned (copy_at a copy) (copy_at b copy) there p.here) p.others in
    left-on a b copy hi (λ q some. (kept q).home) (λ q i r e. r (sym ((kept q).states i) ∙ e)) (λ i below. (kept copy).states i)
    (λ lo hi alone q. alone-kept a b copy q lo hi (kept q) (kept copy).home alone)
    (home-of-same a b (λ q. (kept q).home) (λ t. ap (λ (v : DirectoryView). store_at v t) p.rest)) lo hi ts (omega arith) l

-- nothing is left where all may be read
pub left-none : (d : DirectoryView) (copy lo hi : ℕ) → MayRead (copy_at d copy) lo hi → AreLeft d copy lo hi []
left-none d copy lo hi r = r

-- the host's blocks are what they were, so what is made or filled there was to be before
module _ (a b : DirectoryView) (x : Serves a b) (made : MakesHosts a b) where
  serving-was : (home : Home) (from to : ℕ) (m : Machine) (step : Step) → IsHostServing b home from to m step → IsHostServing a home from to m step
  serving-was home from to m step is = ⊎_elim
      (λ (h : IsHostAlloc b home from to m step). let k = index-was a b x made h.at h.host in inl (record {
        at = h.at;
        store = h.store;
        host = k.0;
        above = omega (arith, k.1, h.above);
        below = omega (arith, k.1, h.below);
        wanting = subst (λ (i : ℕ). IsWanting home m i) (sym k.1) h.wanting;
        alloc = h.alloc;
      }))
      (λ (h : IsHostFill b home from to m step). inr (record {
        at = h.at;
        store = h.store;
        host = host-was a b x made h.at h.host;
        fill = h.fill;
        wanting = h.wanting;
      }))
      is

  pub later-was : (home : Home) (from to : ℕ) (m : Machine) (step : Step) → IsLater b home from to m step → IsLater a home from to m step
  later-was home from to m step is = ⊎_elim
      (λ (f : IsFillBeside home from to m step). inl f)
      (λ (h : IsHostServing b home from to m step). inr (serving-was home from to m step h))
      is

-- what is done for fewer indices is done for more
serving-wider : (d : DirectoryView) (home : Home) (from to less more : ℕ) → less ≤ from → to ≤ more → (m : Machine) (step : Step) → IsHostServing d home from to m step
    → IsHostServing d home less more m step
serving-wider d home from to less more above below m step is = ⊎_elim
    (λ (h : IsHostAlloc d home from to m step). inl (record {
      at = h.at;
      store = h.store;
      host = h.host;
      above = omega (arith, above, h.above);
      below = omega (arith, below, h.below);
      wanting = h.wanting;
      alloc = h.alloc;
    }))
    (λ (h : IsHostFill d home from to m step). let g = same-fill h.at from to less more above below m step h.fill in inr (record {
      at = h.at;
      store = h.store;
      host = h.host;
      fill = g.0;
      wanting = λ i up down. h.wanting i (omega (arith, up, g.1)) (omega (arith, down, g.2));
    }))
    is

later-wider : (d : DirectoryView) (home : Home) (from to less more : ℕ) → less ≤ from → to ≤ more → (m : Machine) (step : Step) → IsLater d home from to m step
    → IsLater d home less more m step
later-wider d home from to less more above below m step is = ⊎_elim
    (λ (f : IsFillBeside home from to m step). inl (fill-wider home from to less more above below m step f.0, f.1))
    (λ (h : IsHostServing d home from to m step). inr (serving-wider d home from to less more above below m step h))
    is

pub served-wider : (a b : DirectoryView) (copy from to less more : ℕ) → less ≤ from → to ≤ more → AreServedLater a b copy from to → AreServedLater a b copy less more
served-wider a b copy from to less more above below f home lies =
    traces-map (IsLater a home from to) (IsLater a home less more) a b (later-wider a home from to less more above below) (f home lies)

pub served-trans : (a b n : DirectoryView) (copy from to : ℕ) → Serves a b → MakesHosts a b → home_in (copy_at b copy) ≡ home_in (copy_at a copy)
    → AreServedLater a b copy from to → AreServedLater b n copy from to → AreServedLater a n copy from to
served-trans a b n copy from to x made same f g home lies = traces-trans (IsLater a home from to) a b n (f home lies)
    (traces-map (IsLater b home from to) (IsLater a home from to) b n (later-was a b x made home from to) (g home (same ∙ lies)))

pub served-none : (a : DirectoryView) (copy from to : ℕ) → AreServedLater a a copy from to
served-none a copy from to home lies = traces-idle (IsLater a home from to) a a (idle-none a)

-- filled from its own space, or made readable on the host
pub beside-served : (a b : DirectoryView) (copy from to : ℕ) → AreFilledBeside a b copy from to → AreServedLater a b copy from to
beside-served a b copy from to f home lies = traces-map (IsFillBeside home from to) (IsLater a home from to) a b (λ m step is. inl is) (f home lies)

pub hosted-served : (a b : DirectoryView) (copy from to : ℕ) → AreHosted a b copy from to → AreServedLater a b copy from to
hosted-served a b copy from to f home lies =
    traces-map (IsHostServing a home from to) (IsLater a home from to) a b (λ m step is. inr is) (f home lies)

-- near a copy on a rank nothing is on the host
near_host : (home at : Home) → 0 < home.space → at.space ≡ 0 → AreNear (Some at) (Some home) → ⊥
near_host home at far host near = omega (arith, far, host, near.1)

-- what is near a copy is of its store, in its space
near_store : (o p : Option Held) (home : Home) → home_in p ≡ Some home → AreNear (home_in o) (Some home) → (store_in o ≡ store_in p) × LieTogether o p
near_store None p home lies near = absurd near
near_store (Some o) None home lies near = cc
near_store (Some o) (Some p) home lies near =
    let store : p.store ≡ home.store = grind arith in
    let space : p.space ≡ home.space = grind arith in
    (ap Some (near.0 ∙ sym store), (home.space, near.1, space))

-- some indices that are stale in a copy and in each one beside it may be read nowhere in its space
pub wanting-like : (m : Machine) (d : DirectoryView) (copy lo hi : ℕ) (home : Home) → IsLike m d → home_in (copy_at d copy) ≡ Some home → IsStaleAt d copy lo hi
    → IsAlone d copy lo hi → (i : ℕ) → lo ≤ i → i < hi → IsWanting home m i
wanting-like m d copy lo hi home l lies missing alone i above below q near =
    let here : AreNear (home_in (copy_at d q)) (Some home) = subst (λ (h : Option Home). AreNear h (Some home)) (l.copies q) near in
    let beside = near_store (copy_at d q) (copy_at d copy) home lies here in
    let there : IsSome (copy_at d q) = near_there (copy_at d q) home here in
    let state : state_in (copy_at d q) i ≡ Stale = ⊎_elim
    (λ (e : q ≡ copy). subst (λ (x : ℕ). state_in (copy_at d x) i ≡ Stale) (sym e) (missing i above below))
    (λ (ne : q ≢ copy). alone q ne beside.0 beside.1 i above below)
    (cases_eq q copy) in
    l.marks q i there ∙ ap mark_of state
  where
    near_there : (o : Option Held) (home : Home) → AreNear (home_in o) (Some home) → IsSome o
    near_there None home near = absurd near
    near_there (Some o) home near = refl

-- and so they may after a copy was made or filled on the host
module _ (home at : Home) (far : 0 < home.space) (host : at.space ≡ 0) (lo hi : ℕ) where
  wanting-alloc : (m : Machine) (step : Step) → ((i : ℕ) → lo ≤ i → i < hi → IsWanting home m i) → IsAlloc at m step → (i : ℕ) → lo ≤ i → i < hi → IsWanting home (after m step) i
  wanting-alloc m step w alloc i above below = subst (λ (s : Step). IsWanting home (after m s) i) (sym alloc.step_is) (λ q near. ⊎_elim
      (λ (e : q ≡ alloc.id). absurd (near_host home at far host
      (subst (λ (h : Option Home). AreNear h (Some home)) (ap live_home (replaced_here m.copies alloc.id (live at) q e)) near)))
      (λ (ne : q ≢ alloc.id). ap (λ (t : Bool). if t then stale else m.marks q i) (eq_no q alloc.id ne)
      ∙ w i above below q (subst (λ (h : Option Home). AreNear h (Some home)) (ap live_home (replaced_else m.copies alloc.id (live at) q ne)) near))
      (cases_eq q alloc.id))

  wanting-fill : (from to : ℕ) (m : Machine) (step : Step) → ((i : ℕ) → lo ≤ i → i < hi → IsWanting home m i) → IsFill at from to m step → (i : ℕ) → lo ≤ i → i < hi
      → IsWanting home (after m step) i
  wanting-fill from to m step w f i above below = subst (λ (s : Step). IsWanting home (after m s) i) (sym f.step_is) (λ q near. ⊎_elim
      (λ (e : q ≡ f.target). absurd (near_host home at far host
      (subst (λ (h : Option Home). AreNear h (Some home)) (ap (λ (x : ℕ). live_home (m.copies x)) e ∙ f.target_home) near)))
      (λ (ne : q ≢ f.target).
      ap (λ (t : Bool). if t then filled_mark (m.marks q i) else m.marks q i) (and_no (q == f.target) (is_within f.lo f.hi i) (inl (eq_no q f.target ne)))
      ∙ w i above below q near)
      (cases_eq q f.target))

-- where a copy of a store on a rank lies
pub far-home : (o : Option Held) (home : Home) → home_in o ≡ Some home → IsFar o → 0 < home.space
far-home o home lies far = subst (λ (h : Option Home). IfSome h (λ home. 0 < home.space)) lies far

pub store-home : (o : Option Held) (s : ℕ) (home : Home) → store_in o ≡ Some s → home_in o ≡ Some home → s ≡ home.store
store-home o s home of lies = some_eq s home.store (sym of ∙ ap home_store lies)

-- the host's block was placed and filled, for a copy that lies on a rank and needs these indices
module _ (a b : DirectoryView) (copy : ℕ) (home at : Home) (from to : ℕ) (lies : home_in (copy_at a copy) ≡ Some home) (far : 0 < home.space)
    (store : at.store ≡ home.store) (host : IsHostHomeOf a from at) (some : from < to)
    (missing : IsStaleAt a copy from to) (alone : IsAlone a copy from to) (alloc : Traces (IsAlloc at) a b) where
  pub hosted-placed : Traces (IsHostServing a home from to) a b
  hosted-placed = traces-with (IsAlloc at) (IsHostServing a home from to) (λ m. (i : ℕ) → from ≤ i → i < to → IsWanting home m i) a b
      (λ m l. wanting-like m a copy from to home l lies missing alone)
      (λ m step w legal is. (
        inl (record {
          at = at;
          store = store;
          host = host.0;
          above = omega (arith, host.1);
          below = omega (arith, host.1, some);
          wanting = w host.0.index (omega (arith, host.1)) (omega (arith, host.1, some));
          alloc = is;
        }),
        wanting-alloc home at far host.0.host from to m step w is,
      ))
      alloc

  pub hosted-filled : (n : DirectoryView) (target hi : ℕ) → home_in (copy_at b target) ≡ Some at → AreFilled b n target from hi → hi ≤ to
      → home_in (copy_at b copy) ≡ Some home → IsStaleAt b copy from to → IsAlone b copy from to → Traces (IsHostServing a home from to) a n
  hosted-filled n target hi placed filled below still left beside = traces-trans (IsHostServing a home from to) a b n hosted-placed
      (traces-with (IsFill at from hi) (IsHostServing a home from to) (λ m. (i : ℕ) → from ≤ i → i < to → IsWanting home m i) b n
      (λ m l. wanting-like m b copy from to home l still left beside)
      (λ m step w legal is. let g = same-fill at from hi from to (omega arith) below m step is in (
        inr (record {
          at = at;
          store = store;
          host = host.0;
          fill = g.0;
          wanting = λ i up down. w i (omega (arith, up, g.1, is.above)) (omega (arith, down, g.2, is.below, below));
        }),
        wanting-fill home at far host.0.host from to from hi m step w is,
      ))
      (filled at placed))

-- the copy was placed
pub placed-later : (a b : DirectoryView) (home : Home) (from to : ℕ) → Traces (IsAlloc home) a b → Traces (IsServingLater a home from to) a b
placed-later a b home from to alloc = traces-map (IsAlloc home) (IsServingLater a home from to) a b (λ m step is. inl is) alloc

-- and then served
pub served-placed : (a b n : DirectoryView) (copy : ℕ) (home : Home) (from to : ℕ) → 0 < home.space → Serves a b → Places a b home → home_in (copy_at b copy) ≡ Some home
    → Traces (IsAlloc home) a b → AreServedLater b n copy from to → Traces (IsServingLater a home from to) a n
served-placed a b n copy home from to far x p lies alloc more = traces-trans (IsServingLater a home from to) a b n
    (placed-later a b home from to alloc)
    (traces-map (IsLater b home from to) (IsServingLater a home from to) b n (λ m step is. inr (later-was a b x (only-on-host a b home far (only-placed a b home p.made)) home from to m step is)) (more home lies))

-- room was made
pub traces-way-later : (a b : DirectoryView) (home : Home) (from to : ℕ) → Traces (IsMakingWay a home) a b → Traces (IsDueLater a home from to) a b
traces-way-later a b home from to x = traces-map (IsMakingWay a home) (IsDueLater a home from to) a b (λ m step is. inl (inr is)) x

-- room was made, and then the copy was made and served
pub traces-later : (a b n : DirectoryView) (home : Home) (from to : ℕ) → 0 < home.space → Serves a b → MakesOnly a b home → Traces (IsMakingWay a home) a b
    → Traces (IsServingLater b home from to) b n → Traces (IsDueLater a home from to) a n
traces-later a b n home from to far x made way more = traces-trans (IsDueLater a home from to) a b n (traces-way-later a b home from to way)
    (traces-map (IsServingLater b home from to) (IsDueLater a home from to) b n
    (λ m step is. ⊎_elim
    (λ (alloc : IsAlloc home m step). inl (inl alloc))
    (λ (l : IsLater b home from to m step). inr (later-was a b x (only-on-host a b home far made) home from to m step l))
    is)
    more)

-- cells that were made readable in the host's copy of a block, for a stale run of a copy on a rank
module _ (a n : DirectoryView) (copy from s lo hi end first last : ℕ) (there : IsSome (copy_at a copy)) (far : IsFar (copy_at a copy))
    (of_store : store_in (copy_at a copy) ≡ Some s) (reaches : ReachesIn (copy_at a copy) lo end) (missing : IsStaleAt a copy lo end)
    (kept : KeepsStates (copy_at a copy) (copy_at n copy)) (at : home_in (copy_at n from) ≡ Some (home_at s 0 first last))
    (above : first ≤ lo) (within : hi ≤ end) (below : hi ≤ last) (readable : MayRead (copy_at n from) lo hi) where
  there_n : IsSome (copy_at n copy)
  there_n = some_home (copy_at a copy) (copy_at n copy) (sym kept.home) there

  pub host-can : CanMove n from copy lo hi
  host-can = record {
    source = home_there (copy_at n from) (home_at s 0 first last) at;
    target = there_n;
    store = ap home_store at ∙ sym (ap home_store kept.home ∙ of_store);
    apart = λ e. spaces_apart (copy_at n copy) (copy_at n from) (home_at s 0 first last)
        (subst (λ (h : Option Home). IfSome h (λ home. 0 < home.space)) (sym kept.home) far) there_n at refl (ap (copy_at n) (sym e));
    from_reaches = reaches_home (copy_at n from) (home_at s 0 first last) lo hi at above below;
    to_reaches = reaches_on (copy_at a copy) (copy_at n copy) lo end hi kept.home within reaches;
    readable = readable;
  }

  pub host-at : IsOnHost (copy_at n from)
  host-at = subst (λ (h : Option Home). IfSome h (λ home. home.space ≡ 0)) (sym at) refl

  pub host-stale : IsStaleAt n copy lo hi
  host-stale i up down = kept.states i ∙ missing i up (omega (arith, down, within))

-- each copy that is there grows through two steps
pub grows-more : (a b n : DirectoryView) → ((q : ℕ) → IsSome (copy_at a q) → GrowsAt a b q) → ((q : ℕ) → IsSome (copy_at b q) → GrowsAt b n q)
    → (q : ℕ) → IsSome (copy_at a q) → GrowsAt a n q
grows-more a b n x y q some = let g = x q some in grows-trans a b n q g (y q (some_home (copy_at a q) (copy_at b q) (sym g.home) some))

-- copies in one space are not far from one another in the machine
together : (k j : CopyState) (o p : Option Held) (space : ℕ) → live_home k ≡ home_in o → live_home j ≡ home_in p → IsSome o → IsSome p → IsIn space o → IsIn space p
    → lie_apart k j ≡ false
together k j o p space x y there some one other =
    let f = live_of k o x there in
    let t = live_of j p y some in
    let a : f.0.space ≡ space = subst (λ (h : Option Home). IfSome h (λ home. home.space ≡ space)) f.2 one in
    let b : t.0.space ≡ space = subst (λ (h : Option Home). IfSome h (λ home. home.space ≡ space)) t.2 other in
    subst (λ (k : CopyState). lie_apart k j ≡ false) (sym f.1) (subst (λ (j : CopyState). lie_apart (live f.0) j ≡ false) (sym t.1) (equal f.0.space t.0.space (a ∙ sym b)))
  where
    equal : (x y : ℕ) → x ≡ y → not (x == y) ≡ false
    equal x y e = grind (arith, e)

-- room in the journal, and then a fill from the copy's own space
pub sum-beside : (a b n : DirectoryView) (from to lo hi : ℕ) → IsSound b → Idles a b → CanMove b from to lo hi → lo < hi → IsStaleAt b to lo hi → Fills b n from to lo hi
    → TracesStep b n (Copy from to lo hi) → IsSourceAt b from to lo hi → LieTogether (copy_at b from) (copy_at b to) → AreFilledBeside a n to lo hi
sum-beside a b n from to lo hi sb i can some missing f t source near home lies = traces-trans (IsFillBeside home lo hi) a b n (traces-idle (IsFillBeside home lo hi) a b i)
    (traces-one (IsFillBeside home lo hi) b n (Copy from to lo hi) f.rest.noted t
    (λ m l. (
      is-fill m b from to lo hi home l can.source can.target ((i.copies to).home ∙ lies) some missing source,
      together (m.copies from) (m.copies to) (copy_at b from) (copy_at b to) near.0 (l.copies from) (l.copies to) can.source can.target near.1 near.2,
    ))
    (λ m l. far_same m b from to sb l))

pub lies-in : (o : Option Held) (space : ℕ) → LiesIn space o → IsIn space o
lies-in None space is = absurd is
lies-in (Some held) space is = is
