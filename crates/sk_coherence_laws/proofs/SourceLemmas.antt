-- A source may be moved from.
use Rattle.std.proofs.Common.{◌≡◌, ◌≢◌, ℕ, ◌-◌, ◌<◌, ◌≤◌, List, length, slice_index, Option, Some, None, IfSome, IsSome, arith, ⊎_elim, refl, inl, inr, sym, subst, ◌∙◌, ap}
use Rattle.std.proofs.lemmas.Bool.{cases_eq, cases_lt}
use Rattle.sk_ranges.specs.declared.state.State.TheVariants.{Stale, Owner}
use Rattle.sk_copy_states.specs.declared.held.Held.{Held}
use Rattle.sk_copy_states.specs.Held.{IsFit}
use Rattle.sk_copy_states.specs.Copies.{home_in, store_in, state_in, ReachesIn}
use Rattle.sk_copy_states.specs.Stores.{copies_in, AreRising}
use Rattle.sk_coherence_laws.specs.Directory.{DirectoryView, copy_at, store_at, IsSound}
use Rattle.sk_coherence_laws.specs.Moves.{CanMove, IsStaleAt, AreNear, IsSourceAt}
use Rattle.sk_copy_states.specs.Sources.{LiesIn, MayRead, IsNear, IsOwnerOf, IsSourceOf, NoneNear}
use Rattle.sk_coherence_laws.specs.Owned.{HasOwnerAt}
use Rattle.sk_copy_states.proofs.InBlock.{in_block}
use Rattle.sk_coherence_laws.proofs.StateLemmas.{owner_not_stale}

pub readable_there : (o : Option Held) (i : ℕ) → state_in o i ≢ Stale → IsSome o
readable_there None i readable = absurd (readable refl)
readable_there (Some held) i readable = refl

pub reaches_readable : (o : Option Held) (lo hi : ℕ) → lo < hi → IfSome o IsFit → MayRead o lo hi → ReachesIn o lo hi
reaches_readable None lo hi some fit readable = tt
reaches_readable (Some held) lo hi some fit readable =
    let first = in_block held lo fit (readable lo (omega arith) some) in
    let last = in_block held (hi - 1) fit (readable (hi - 1) (omega (arith, some)) (omega (arith, some))) in
    (first.0, omega (arith, last.1, some))

listed_source : (d : DirectoryView) (s space lo hi id : ℕ) → IsSound d → IsSourceOf (copy_at d) (copies_in (store_at d s)) space lo hi id
    → (store_in (copy_at d id) ≡ Some s) × MayRead (copy_at d id) lo hi
listed_source d s space lo hi id sound source = ⊎_elim
    (λ (n : IsNear (copy_at d) (copies_in (store_at d s)) space lo hi id).
    (subst (λ (q : ℕ). store_in (copy_at d q) ≡ Some s) n.here (sound.listed s n.at n.inside), n.readable))
    (λ (o : IsOwnerOf (copy_at d) (copies_in (store_at d s)) lo hi id × NoneNear (copy_at d) (copies_in (store_at d s)) space lo hi).
    (subst (λ (q : ℕ). store_in (copy_at d q) ≡ Some s) o.0.here (sound.listed s o.0.at o.0.inside), λ i above below e. owner_not_stale (sym (o.0.owns i above below) ∙ e)))
    source

pub move-of-source : (d : DirectoryView) (s space to lo hi id : ℕ) → IsSound d → lo < hi → store_in (copy_at d to) ≡ Some s → IsSome (copy_at d to)
    → ReachesIn (copy_at d to) lo hi → IsStaleAt d to lo hi
    → IsSourceOf (copy_at d) (copies_in (store_at d s)) space lo hi id → CanMove d id to lo hi
move-of-source d s space to lo hi id sound some home there reaches missing source =
    let l = listed_source d s space lo hi id sound source in
    record {
      source = readable_there (copy_at d id) lo (l.1 lo (omega arith) some);
      target = there;
      store = l.0 ∙ sym home;
      apart = λ e. l.1 lo (omega arith) some (ap (λ q. state_in (copy_at d q) lo) e ∙ missing lo (omega arith) some);
      from_reaches = reaches_readable (copy_at d id) lo hi some (sound.fit id) l.1;
      to_reaches = reaches;
      readable = l.1;
    }

pub some_eq : (x y : ℕ) → Some x ≡ Some y → x ≡ y
some_eq x y same = cc

-- copies of one store in one space are near
near_of : (o p : Option Held) (s space : ℕ) → store_in o ≡ Some s → store_in p ≡ Some s → LiesIn space o → LiesIn space p → AreNear (home_in o) (home_in p)
near_of None p s space one other here there = absurd here
near_of (Some o) None s space one other here there = absurd there
near_of (Some o) (Some p) s space one other here there = (some_eq o.store p.store (one ∙ sym other), here ∙ sym there)

-- and what is near is of the same store, in the same space
near_lies : (o p : Option Held) (s space : ℕ) → store_in p ≡ Some s → LiesIn space p → AreNear (home_in o) (home_in p) → (store_in o ≡ Some s) × LiesIn space o
near_lies None p s space other there near = absurd near
near_lies (Some o) None s space other there near = absurd near
near_lies (Some o) (Some p) s space other there near = (ap Some near.0 ∙ other, near.1 ∙ there)

-- a number that is less than another one is listed before it
listed_before : (ids : List ℕ) (at k id q : ℕ) → AreRising ids → at < length ids → k < length ids → slice_index ids at ≡ id → slice_index ids k ≡ q → q < id → k < at
listed_before ids at k id q rising inside within here there less = ⊎_elim
    (λ (x : k < at). x)
    (λ (x : at ≤ k). ⊎_elim
    (λ (e : at ≡ k). absurd (absurd_of (slice_index ids at) (slice_index ids k) (ap (λ (x : ℕ). slice_index ids x) e) here there less))
    (λ (ne : at ≢ k). absurd (absurd_after (slice_index ids at) (slice_index ids k) (rising at k (omega (arith, x, ne)) within) here there less))
    (cases_eq at k))
    (cases_lt k at)
  where
    absurd_of : (a b : ℕ) → a ≡ b → a ≡ id → b ≡ q → q < id → ⊥
    absurd_of a b same one other less = omega (arith, same, one, other, less)

    absurd_after : (a b : ℕ) → a < b → a ≡ id → b ≡ q → q < id → ⊥
    absurd_after a b more one other less = omega (arith, more, one, other, less)

-- the listed copy from which indices are filled is the one from which they have to come
pub source-of : (d : DirectoryView) (s space to lo hi id : ℕ) → IsSound d → store_in (copy_at d to) ≡ Some s → LiesIn space (copy_at d to)
    → IsSourceOf (copy_at d) (copies_in (store_at d s)) space lo hi id → IsSourceAt d id to lo hi
source-of d s space to lo hi id sound home lies source = ⊎_elim
    (λ (n : IsNear (copy_at d) (copies_in (store_at d s)) space lo hi id). inl (
      near_of (copy_at d id) (copy_at d to) s space (listed_source d s space lo hi id sound source).0 home n.lies lies,
      λ q less near.
          let l = near_lies (copy_at d q) (copy_at d to) s space home lies near in
          let k = sound.complete s q l.0 in
          stale_of q k.0 k.2 (n.earlier k.0 (listed_before (copies_in (store_at d s)) n.at k.0 id q (sound.rising s) n.inside k.1 n.here k.2 less)) l.1,
    ))
    (λ (o : IsOwnerOf (copy_at d) (copies_in (store_at d s)) lo hi id × NoneNear (copy_at d) (copies_in (store_at d s)) space lo hi). inr (
      o.0.owns,
      λ q near.
          let l = near_lies (copy_at d q) (copy_at d to) s space home lies near in
          let k = sound.complete s q l.0 in
          stale_of q k.0 k.2 (o.1 k.0 k.1) l.1,
    ))
    source
  where
    stale_of : (q k : ℕ) → slice_index (copies_in (store_at d s)) k ≡ q
        → (LiesIn space (copy_at d (slice_index (copies_in (store_at d s)) k)) → IsStaleAt d (slice_index (copies_in (store_at d s)) k) lo hi)
        → LiesIn space (copy_at d q) → IsStaleAt d q lo hi
    stale_of q k there missing = subst (λ (x : ℕ). LiesIn space (copy_at d x) → IsStaleAt d x lo hi) there missing

-- an owner is listed
pub owner_listed : (d : DirectoryView) (s to i : ℕ) → IsSound d → store_in (copy_at d to) ≡ Some s → HasOwnerAt d to i
    → ((k : ℕ) → k < length (copies_in (store_at d s)) → state_in (copy_at d (slice_index (copies_in (store_at d s)) k)) i ≢ Owner) → ⊥
owner_listed d s to i sound home owned none =
    let c = sound.complete s owned.0 (owned.1 ∙ home) in
    none c.0 c.1 (ap (λ q. state_in (copy_at d q) i) c.2 ∙ owned.2)

pub reaches_less : (o : Option Held) (lo less hi : ℕ) → less ≤ hi → ReachesIn o lo hi → ReachesIn o lo less
reaches_less None lo less hi below reaches = tt
reaches_less (Some held) lo less hi below reaches = (reaches.0, omega (arith, reaches.1, below))
