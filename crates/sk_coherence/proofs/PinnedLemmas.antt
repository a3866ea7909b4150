-- Copies on ranks that keep their states while others are acquired or go.
use Rattle.std.proofs.Common.{◌≡◌, ◌≢◌, ℕ, ◌<◌, Option, Some, None, IfSome, IsSome, arith, ⊎_elim, refl, sym, subst, ◌∙◌, ap}
use Rattle.sk_spaces.specs.Machine.{Home}
use Rattle.sk_copy_states.specs.declared.held.Held.{Held}
use Rattle.sk_copy_states.specs.Copies.{KeepsStates, home_in, pins_in}
use Rattle.sk_copy_states.proofs.RoomLemmas.{kept-trans}
use Rattle.sk_coherence_laws.specs.Directory.{DirectoryView, copy_at}
use Rattle.sk_coherence_laws.specs.Serves.{Serves, GrowsAt, WasEvicted}
use Rattle.sk_coherence_laws.proofs.KeptLemmas.{keeps_same}
use Rattle.sk_coherence_laws.proofs.TracedWrite.{some_home}
use Rattle.sk_coherence.specs.Evicts.{IsFar, IsOnHost, KeepsFar, KeepsPinned, KeepsPinnedBut}

-- no copy lies on a rank and on the host
pub not_both : (o : Option Held) → IsSome o → IsFar o → IsOnHost o → ⊥
not_both None there far host = cc
not_both (Some held) there far host = omega (arith, far, host)

-- what is pinned is there
pub pinned_there : (o : Option Held) → 0 < pins_in o → IsSome o
pinned_there None some = absurd (omega (arith, some))
pinned_there (Some held) some = refl

pub far_on : (o p : Option Held) → home_in p ≡ home_in o → IsFar o → IsFar p
far_on o p same far = subst (λ (h : Option Home). IfSome h (λ home. 0 < home.space)) (sym same) far

pub far-trans : (a b n : DirectoryView) (but : ℕ) → KeepsFar a b but → KeepsFar b n but → KeepsFar a n but
far-trans a b n but x y q ne there far =
    let k = x q ne there far in
    kept-trans (copy_at a q) (copy_at b q) (copy_at n q) k
    (y q ne (some_home (copy_at a q) (copy_at b q) (sym k.home) there) (far_on (copy_at a q) (copy_at b q) k.home far))

-- what is pinned stays pinned
pub pins_on : (a b : DirectoryView) → Serves a b → (q : ℕ) → 0 < pins_in (copy_at a q) → 0 < pins_in (copy_at b q)
pins_on a b s q some = ⊎_elim
    (λ (g : GrowsAt a b q). omega (arith, g.pins, some))
    (λ (w : WasEvicted a b q). absurd (omega (arith, w.unpinned, some)))
    (s.stays q (pinned_there (copy_at a q) some))

pub pinned-trans : (a b n : DirectoryView) → Serves a b → KeepsPinned a b → KeepsPinned b n → KeepsPinned a n
pinned-trans a b n s x y q some far =
    let k = x q some far in
    kept-trans (copy_at a q) (copy_at b q) (copy_at n q) k (y q (pins_on a b s q some) (far_on (copy_at a q) (copy_at b q) k.home far))

-- nothing changed
pub pinned-none : (a : DirectoryView) → KeepsPinned a a
pinned-none a q some far = keeps_same (copy_at a q)

-- an unpinned copy went, or handed back what it owned
pub pinned-far : (a n : DirectoryView) (copy : ℕ) → pins_in (copy_at a copy) ≡ 0 → KeepsFar a n copy → KeepsPinned a n
pinned-far a n copy unpinned x q some far =
    x q (λ e. absurd (omega (arith, some, ap (λ (k : ℕ). pins_in (copy_at a k)) e, unpinned))) (pinned_there (copy_at a q) some) far

-- every copy that was there has its states
pub pinned-kept : (a n : DirectoryView) → ((q : ℕ) → IsSome (copy_at a q) → KeepsStates (copy_at a q) (copy_at n q)) → KeepsPinned a n
pinned-kept a n x q some far = x q (pinned_there (copy_at a q) some)

-- room was found, and then the copy with one block was made and filled
pub but-trans : (a b n : DirectoryView) (home : Home) → Serves a b → KeepsPinned a b → KeepsPinnedBut b n home → KeepsPinnedBut a n home
but-trans a b n home s x y q ne some far =
    let k = x q some far in
    kept-trans (copy_at a q) (copy_at b q) (copy_at n q) k
    (y q (λ e. ne (sym k.home ∙ e)) (pins_on a b s q some) (far_on (copy_at a q) (copy_at b q) k.home far))

pub pinned-but : (a n : DirectoryView) (home : Home) → KeepsPinned a n → KeepsPinnedBut a n home
pinned-but a n home x q ne some far = x q some far

-- a copy with the block was placed, and then no other one changed
pub but-placed : (a b n : DirectoryView) (copy : ℕ) (home : Home) → ((q : ℕ) → IsSome (copy_at a q) → KeepsStates (copy_at a q) (copy_at b q))
    → home_in (copy_at b copy) ≡ Some home → ((q : ℕ) → q ≢ copy → IsFar (copy_at b q) → IsSome (copy_at b q) → KeepsStates (copy_at b q) (copy_at n q)) → KeepsPinnedBut a n home
but-placed a b n copy home x at y q ne some far =
    let k = x q (pinned_there (copy_at a q) some) in
    kept-trans (copy_at a q) (copy_at b q) (copy_at n q) k
    (y q (λ e. ne (sym k.home ∙ ap (λ (i : ℕ). home_in (copy_at b i)) e ∙ at)) (far_on (copy_at a q) (copy_at b q) k.home far)
    (some_home (copy_at a q) (copy_at b q) (sym k.home) (pinned_there (copy_at a q) some)))

-- a copy on the host was placed and filled
pub far-placed : (a b n : DirectoryView) (but from : ℕ) (home : Home) → ((q : ℕ) → IsSome (copy_at a q) → KeepsStates (copy_at a q) (copy_at b q))
    → home_in (copy_at b from) ≡ Some home → home.space ≡ 0 → ((q : ℕ) → q ≢ from → KeepsStates (copy_at b q) (copy_at n q)) → KeepsFar a n but
far-placed a b n but from home x at host y q ne there far =
    let k = x q there in
    let some : IsSome (copy_at b q) = some_home (copy_at a q) (copy_at b q) (sym k.home) there in
    let stays : IsFar (copy_at b q) = far_on (copy_at a q) (copy_at b q) k.home far in
    let on_host : IsOnHost (copy_at b from) = subst (λ (h : Option Home). IfSome h (λ home. home.space ≡ 0)) (sym at) host in
    kept-trans (copy_at a q) (copy_at b q) (copy_at n q) k
    (y q (λ e. not_both (copy_at b q) some stays (subst (λ (x : ℕ). IsOnHost (copy_at b x)) (sym e) on_host)))

-- nothing changed
pub far-none : (a : DirectoryView) (but : ℕ) → KeepsFar a a but
far-none a but q ne there far = keeps_same (copy_at a q)
