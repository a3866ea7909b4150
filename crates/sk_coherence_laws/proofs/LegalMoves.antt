-- Where cells may go from one copy to another one, the machine lets them.
use Rattle.std.proofs.Common.{◌≡◌, ◌≢◌, ℕ, ◌≤◌, Option, Some, None, arith, refl, sym, subst, ◌∙◌, ap}
use Rattle.sk_ranges.specs.declared.state.State.{State}
use Rattle.sk_ranges.specs.declared.state.State.TheVariants.{Stale, Valid, Owner}
use Rattle.sk_spaces.specs.Machine.{Machine, Home, CopyState, Mark, stale, valid, owner}
use Rattle.sk_spaces.specs.Rules.{IsThere, Covers, CanCopy}
use Rattle.sk_copy_states.specs.declared.held.Held.{Held}
use Rattle.sk_copy_states.specs.Held.{mark_of}
use Rattle.sk_copy_states.specs.Copies.{home_in, home_store, state_in, ReachesIn}
use Rattle.sk_coherence_laws.specs.Directory.{DirectoryView, copy_at}
use Rattle.sk_coherence_laws.specs.Traced.{IsLike}
use Rattle.sk_coherence_laws.specs.Moves.{CanMove}
use Rattle.sk_coherence_laws.proofs.TracedWrite.{live_of}

abbrev IsStaleMark : Mark → Type 0
IsStaleMark stale = Unit {0}
IsStaleMark valid = ⊥
IsStaleMark owner = ⊥

-- what may be read may be read in the machine
pub readable_mark : (s : State) → s ≢ Stale → mark_of s ≢ stale
readable_mark Stale readable e = readable refl
readable_mark Valid readable e = subst IsStaleMark (sym e) tt
readable_mark Owner readable e = subst IsStaleMark (sym e) tt

covers_of : (o : Option Held) (home : Home) (lo hi : ℕ) → home_in o ≡ Some home → lo ≤ hi → ReachesIn o lo hi → Covers lo hi home
covers_of None home lo hi is ordered reaches = cc
covers_of (Some held) home lo hi is ordered reaches =
    let l : held.lo ≡ home.lo = grind arith in
    let h : held.hi ≡ home.hi = grind arith in
    record { above = omega (arith, l, reaches.0); ordered = ordered; below = omega (arith, h, reaches.1) }

some_eq : (x y : ℕ) → Some x ≡ Some y → x ≡ y
some_eq x y same = cc

pub can-copy : (m : Machine) (d : DirectoryView) (from to lo hi : ℕ) → IsLike m d → CanMove d from to lo hi → lo ≤ hi → CanCopy m from to lo hi
can-copy m d from to lo hi l c ordered =
    let f = live_of (m.copies from) (copy_at d from) (l.copies from) c.source in
    let t = live_of (m.copies to) (copy_at d to) (l.copies to) c.target in
    let same : f.0.store ≡ t.0.store = some_eq f.0.store t.0.store (ap home_store (sym f.2) ∙ c.store ∙ ap home_store t.2) in
    record {
      homes = subst (λ (k : CopyState). IsThere k (λ one. IsThere (m.copies to) (λ other. (one.store ≡ other.store) × Covers lo hi one × Covers lo hi other))) (sym f.1)
          (subst (λ (k : CopyState). IsThere k (λ other. (f.0.store ≡ other.store) × Covers lo hi f.0 × Covers lo hi other)) (sym t.1)
          (same, covers_of (copy_at d from) f.0 lo hi f.2 ordered c.from_reaches, covers_of (copy_at d to) t.0 lo hi t.2 ordered c.to_reaches));
      apart = c.apart;
      readable = λ i above below e. readable_mark (state_in (copy_at d from) i) (c.readable i above below) (sym (l.marks from i c.source) ∙ e);
    }

abbrev IsOwnerMark : Mark → Type 0
IsOwnerMark stale = ⊥
IsOwnerMark valid = ⊥
IsOwnerMark owner = Unit {0}

-- what is not owned is not owned in the machine
pub not_owner_mark : (s : State) → s ≢ Owner → mark_of s ≢ owner
not_owner_mark Stale other e = subst IsOwnerMark (sym e) tt
not_owner_mark Valid other e = subst IsOwnerMark (sym e) tt
not_owner_mark Owner other e = other refl
