-- Cells of owners through the calls of a directory.
use Rattle.std.proofs.Common.{◌≡◌, ◌≢◌, ℕ, ℤ, ◌+◌, ◌-◌, Option, Some, None, IfSome, IsSome, arith, sym, subst, ◌∙◌, ap, refl}
use Rattle.sk_ranges.specs.declared.state.State.TheVariants.{Stale}
use Rattle.sk_copy_states.specs.declared.held.Held.{Held}
use Rattle.sk_copy_states.specs.Copies.{store_in, state_in, cell_in}
use Rattle.sk_coherence_laws.specs.Directory.{DirectoryView, copy_at, cells_of_copy, IsSound}
use Rattle.sk_coherence_laws.specs.Owned.{IsOwned}
use Rattle.sk_coherence_laws.specs.Serves.{Serves}
use Rattle.sk_container.specs.Cells.{HasCell}

pub has-served : (a b : DirectoryView) (s i : ℕ) (x : ℤ) → Serves a b → HasCell a s i x → HasCell b s i x
has-served a b s i x v h = let o = v.owned h.at i h.owns in record {
  at = o.at;
  store = o.store ∙ h.store;
  owns = o.owns;
  cell = o.cell ∙ h.cell;
}

pub has-before : (a b : DirectoryView) (s i : ℕ) (x : ℤ) → Serves a b → HasCell b s i x → HasCell a s i x
has-before a b s i x v h = let o = v.owners h.at i h.owns in record {
  at = o.at;
  store = o.store ∙ h.store;
  owns = o.owns;
  cell = o.cell ∙ h.cell;
}

-- a cell that may be read is the owner's
pub has-read : (d : DirectoryView) (s q i : ℕ) → IsSound d → IsOwned d s i → store_in (copy_at d q) ≡ Some s → state_in (copy_at d q) i ≢ Stale
    → HasCell d s i (cell_in (cells_of_copy d q) i)
has-read d s q i sound o is readable = record {
  at = o.0;
  store = o.1;
  owns = o.2;
  cell = sym (sound.coherent.equal o.0 q i (o.1 ∙ sym is) o.2 readable);
}

-- an owned index has one cell
pub has-one : (d : DirectoryView) (s i : ℕ) (x y : ℤ) → IsSound d → HasCell d s i x → HasCell d s i y → x ≡ y
has-one d s i x y sound h k =
    let e : h.at ≡ k.at = sound.coherent.single h.at k.at i (h.store ∙ sym k.store) h.owns k.owns in
    sym h.cell ∙ ap (λ (q : ℕ). cell_in (cells_of_copy d q) i) e ∙ k.cell

pins-back : (held : Held) (k : ℕ) → k ≡ held.pins → Some (record held { pins = k }) ≡ Some held
pins-back held k e = subst (λ (n : ℕ). Some (record held { pins = n }) ≡ Some held) (sym e) refl

pub unpinned-back : (o p r : Option Held) → IsSome o → IfSome o (λ held. p ≡ Some (record held { pins = held.pins + 1 }))
    → IfSome p (λ held. r ≡ Some (record held { pins = held.pins - 1 })) → r ≡ o
unpinned-back None p r there is not = cc
unpinned-back (Some held) p r there is not =
    let e : r ≡ Some (record held { pins = held.pins + 1 - 1 }) = subst (λ (p : Option Held). IfSome p (λ held. r ≡ Some (record held { pins = held.pins - 1 }))) is not in
    e ∙ pins-back held (held.pins + 1 - 1) (omega arith)
