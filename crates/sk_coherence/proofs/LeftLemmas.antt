-- Copies that are left, and copies that are made, while one is acquired.
use Rattle.std.proofs.Common.{◌≡◌, ◌≢◌, ℕ, ◌+◌, ◌<◌, Option, Some, None, IfSome, IsSome, arith, ⊎_elim, inl, inr, sym, subst, ◌∙◌, ap, ◌⊎◌}
use Rattle.std.proofs.lemmas.Bool.{cases_eq}
use Rattle.sk_spaces.specs.Machine.{Home}
use Rattle.sk_copy_states.specs.declared.held.Held.{Held}
use Rattle.sk_copy_states.specs.Copies.{KeepsStates, home_in}
use Rattle.sk_copy_states.proofs.RoomLemmas.{kept-trans}
use Rattle.sk_coherence_laws.specs.Directory.{DirectoryView, copy_at, IsSound}
use Rattle.sk_coherence_laws.specs.Acquires.{PinsOne, Acquires}
use Rattle.sk_coherence_laws.specs.Owes.{OwesWrite, AcquiresWrite}
use Rattle.sk_coherence_laws.specs.HostBlocks.{IsHostHome}
use Rattle.sk_coherence_laws.specs.Serves.{Serves, GrowsAt, WasEvicted}
use Rattle.sk_coherence_laws.proofs.HostLemmas.{Makes, MakesHosts, makes-map, makes-hosts, makes-trans, host-was}
use Rattle.sk_coherence_laws.proofs.KeptLemmas.{keeps_same}
use Rattle.sk_coherence_laws.proofs.ServesLemmas.{not_there}
use Rattle.sk_coherence_laws.proofs.TracedWrite.{some_home}
use Rattle.sk_coherence.specs.Evicts.{IsFar, IsBackHome, MakesBack, KeepsFar, KeepsLeft, KeepsLeftBut, MakesHostBlocks}
use Rattle.sk_coherence.specs.Room.{MakesOnly}
use Rattle.sk_coherence.proofs.PinnedLemmas.{far_on}

-- what was there, and is, was there all the time
mid_there : (a b n : DirectoryView) → IsSound a → Serves a b → Serves b n → (q : ℕ) → IsSome (copy_at a q) → IsSome (copy_at n q) → IsSome (copy_at b q)
mid_there a b n sound x y q there some = ⊎_elim
    (λ (g : GrowsAt a b q). some_home (copy_at a q) (copy_at b q) (sym g.home) there)
    (λ (w : WasEvicted a b q). absurd (not_there (copy_at a q) (sound.new_copies q (omega (arith, (y.fresh q w.gone some).0, x.next_copy))) there))
    (x.stays q there)

still_out : (space : ℕ) (o p : Option Held) → KeepsStates o p → (space ≡ 0) ⊎ IsFar o → (space ≡ 0) ⊎ IsFar p
still_out space o p k out = ⊎_elim (λ (e : space ≡ 0). inl e) (λ (far : IsFar o). inr (far_on o p k.home far)) out

-- nothing changed
pub left-same : (a : DirectoryView) (space : ℕ) → KeepsLeft a a space
left-same a space q there some out = keeps_same (copy_at a q)

pub left-trans : (a b n : DirectoryView) (space : ℕ) → IsSound a → Serves a b → Serves b n → KeepsLeft a b space → KeepsLeft b n space → KeepsLeft a n space
left-trans a b n space sound x y one other q there some out =
    let mid = mid_there a b n sound x y q there some in
    let k = one q there mid out in
    kept-trans (copy_at a q) (copy_at b q) (copy_at n q) k (other q mid some (still_out space (copy_at a q) (copy_at b q) k out))

-- one copy went
pub left-gone : (a n : DirectoryView) (copy space : ℕ) → 0 < space → KeepsFar a n copy → copy_at n copy ≡ None → KeepsLeft a n space
left-gone a n copy space some others gone q there still out = ⊎_elim
    (λ (e : space ≡ 0). absurd (omega (arith, e, some)))
    (λ (far : IsFar (copy_at a q)). others q (λ e. not_there (copy_at n q) (ap (copy_at n) e ∙ gone) still) there far)
    out

-- every copy that was there has its states
pub left-kept : (a n : DirectoryView) (space : ℕ) → ((q : ℕ) → IsSome (copy_at a q) → KeepsStates (copy_at a q) (copy_at n q)) → KeepsLeft a n space
left-kept a n space kept q there some out = kept q there

-- the copy that lies so was placed, and then no other one changed that was on a rank, or, where it is on the host, none at all
pub left-placed : (a b n : DirectoryView) (copy : ℕ) (home : Home) → ((q : ℕ) → IsSome (copy_at a q) → KeepsStates (copy_at a q) (copy_at b q))
    → home_in (copy_at b copy) ≡ Some home
    → ((q : ℕ) → q ≢ copy → IsSome (copy_at b q) → (home.space ≡ 0) ⊎ IsFar (copy_at b q) → KeepsStates (copy_at b q) (copy_at n q)) → KeepsLeftBut a n home
left-placed a b n copy home placed at others q ne there some out =
    let k = placed q there in
    kept-trans (copy_at a q) (copy_at b q) (copy_at n q) k
    (others q (λ e. ne (sym k.home ∙ ap (λ (i : ℕ). home_in (copy_at b i)) e ∙ at)) (some_home (copy_at a q) (copy_at b q) (sym k.home) there)
    (still_out home.space (copy_at a q) (copy_at b q) k out))

-- where each copy lies as it did
pub makes-homes : (a n k : DirectoryView) (P : Home → Type 0) → ((q : ℕ) → home_in (copy_at k q) ≡ home_in (copy_at n q)) → Makes a n P → Makes a k P
makes-homes a n k P homes made q none = subst (λ (h : Option Home). IfSome h P) (sym (homes q)) (made q none)

pub homes-pinned : (n k : DirectoryView) (copy : ℕ) → IsSome (copy_at n copy) → PinsOne n k copy → (q : ℕ) → home_in (copy_at k q) ≡ home_in (copy_at n q)
homes-pinned n k copy there p q = ⊎_elim
    (λ (e : q ≡ copy). subst (λ (x : ℕ). home_in (copy_at k x) ≡ home_in (copy_at n x)) (sym e) (same (copy_at n copy) (copy_at k copy) there p.here))
    (λ (ne : q ≢ copy). ap home_in (p.others q ne))
    (cases_eq q copy)
  where
    same : (o p : Option Held) → IsSome o → IfSome o (λ held. p ≡ Some (record held { pins = held.pins + 1 })) → home_in p ≡ home_in o
    same None p there is = cc
    same (Some held) p there is = ap home_in is

-- the copy that lies so was made, if any was
pub only-placed : (a b : DirectoryView) (home : Home) → Makes a b (λ at. at ≡ home) → MakesOnly a b home
only-placed a b home made = makes-map a b (λ at. at ≡ home) (λ at. (at ≡ home) ⊎ ((0 < home.space) × IsHostHome a at)) (λ at e. inl e) made

-- on a rank, blocks of the host were made, if any were
pub only-hosts : (a b : DirectoryView) (home : Home) → 0 < home.space → MakesHostBlocks a b → MakesOnly a b home
only-hosts a b home some made = makes-map a b (IsHostHome a) (λ at. (at ≡ home) ⊎ ((0 < home.space) × IsHostHome a at)) (λ at h. inr (some, h)) made

-- on a rank, what lies on the host is the host's block
pub only-on-host : (a b : DirectoryView) (home : Home) → 0 < home.space → MakesOnly a b home → MakesHosts a b
only-on-host a b home some made = makes-hosts a b (λ at. (at ≡ home) ⊎ ((0 < home.space) × IsHostHome a at))
    (λ at host p. ⊎_elim
    (λ (e : at ≡ home). absurd (omega (arith, some, host, ap (λ (h : Home). h.space) e)))
    (λ (h : (0 < home.space) × IsHostHome a at). h.1)
    p)
    made

pub only-trans : (a b n : DirectoryView) (home : Home) → Serves a b → Serves b n → MakesOnly a b home → MakesOnly b n home → MakesOnly a n home
only-trans a b n home x y made more = makes-trans a b n (λ at. (at ≡ home) ⊎ ((0 < home.space) × IsHostHome a at)) y made
    (makes-map b n (λ at. (at ≡ home) ⊎ ((0 < home.space) × IsHostHome b at)) (λ at. (at ≡ home) ⊎ ((0 < home.space) × IsHostHome a at))
    (λ at p. ⊎_elim
    (λ (e : at ≡ home). inl e)
    (λ (h : (0 < home.space) × IsHostHome b at). inr (h.0, host-was a b x (only-on-host a b home h.0 made) at h.1))
    p)
    more)

-- blocks of the host were made, and then more
pub hosts-made : (a b : DirectoryView) → MakesHostBlocks a b → MakesHosts a b
hosts-made a b made = makes-hosts a b (IsHostHome a) (λ home host h. h) made

pub hosts-trans : (a b n : DirectoryView) → Serves a b → Serves b n → MakesHostBlocks a b → MakesHostBlocks b n → MakesHostBlocks a n
hosts-trans a b n x y made more = makes-trans a b n (IsHostHome a) y made
    (makes-map b n (IsHostHome b) (IsHostHome a) (host-was a b x (hosts-made a b made)) more)

-- what is made for cells that go back are blocks of the host
pub back-hosts : (a b : DirectoryView) (copy : ℕ) → MakesBack a b copy → MakesHostBlocks a b
back-hosts a b copy made = makes-map a b (IsBackHome a copy) (IsHostHome a) (λ home back. back.host) made

-- the copy was placed, and then nothing was made
pub only-grown : (a b n : DirectoryView) (home : Home) → Makes a b (λ at. at ≡ home) → ((q : ℕ) → GrowsAt b n q) → MakesOnly a n home
only-grown a b n home made grows = makes-homes a b n (λ at. (at ≡ home) ⊎ ((0 < home.space) × IsHostHome a at)) (λ q. (grows q).home) (only-placed a b home made)

pub only-homes : (a n k : DirectoryView) (home : Home) → ((q : ℕ) → home_in (copy_at k q) ≡ home_in (copy_at n q)) → MakesOnly a n home → MakesOnly a k home
only-homes a n k home homes made = makes-homes a n k (λ at. (at ≡ home) ⊎ ((0 < home.space) × IsHostHome a at)) homes made

-- room was found, and then the copy was acquired
pub left-acquired : (a b n : DirectoryView) (home : Home) (copy : ℕ) → IsSound a → Serves a b → Acquires b n copy → KeepsLeft a b home.space → KeepsLeftBut b n home → KeepsLeftBut a n home
left-acquired a b n home copy sound x y one other q ne there some out =
    let last : IsSome (copy_at y.before q) = some_home (copy_at n q) (copy_at y.before q) (homes-pinned y.before n copy y.there y.pins q) some in
    let mid = mid_there a b y.before sound x y.serves q there last in
    let k = one q there mid out in
    kept-trans (copy_at a q) (copy_at b q) (copy_at n q) k
    (other q (λ e. ne (sym k.home ∙ e)) mid some (still_out home.space (copy_at a q) (copy_at b q) k out))

pub only-acquired : (a b n : DirectoryView) (home : Home) (copy : ℕ) → Serves a b → Acquires b n copy → MakesOnly a b home → MakesOnly b n home → MakesOnly a n home
only-acquired a b n home copy x y made more =
    only-homes a y.before n home (homes-pinned y.before n copy y.there y.pins)
    (only-trans a b y.before home x y.serves made (only-homes b n y.before home (λ q. sym (homes-pinned y.before n copy y.there y.pins q)) more))

-- room was found, and then the copy was acquired for writing
homes-owed : (n k : DirectoryView) (s copy : ℕ) → OwesWrite n k s copy → (q : ℕ) → home_in (copy_at k q) ≡ home_in (copy_at n q)
homes-owed n k s copy owes q = (owes.copies q).home

pub left-owed : (a b n : DirectoryView) (s copy space : ℕ) → IsSound a → Serves a b → AcquiresWrite b n s copy → KeepsLeft a b space → KeepsLeft b n space → KeepsLeft a n space
left-owed a b n s copy space sound x y one other q there some out =
    let last : IsSome (copy_at y.before q) = some_home (copy_at n q) (copy_at y.before q) (homes-owed y.before n s copy y.owes q) some in
    let mid = mid_there a b y.before sound x y.serves q there last in
    let k = one q there mid out in
    kept-trans (copy_at a q) (copy_at b q) (copy_at n q) k (other q mid some (still_out space (copy_at a q) (copy_at b q) k out))

pub only-owed : (a b n : DirectoryView) (home : Home) (s copy : ℕ) → Serves a b → AcquiresWrite b n s copy → MakesOnly a b home → MakesOnly b n home → MakesOnly a n home
only-owed a b n home s copy x y made more =
    only-homes a y.before n home (homes-owed y.before n s copy y.owes)
    (only-trans a b y.before home x y.serves made (only-homes b n y.before home (λ q. sym (homes-owed y.before n s copy y.owes q)) more))
