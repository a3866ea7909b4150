-- Blocks lie inside their stores still, where no store has fewer cells than before.
use Rattle.std.proofs.Common.{◌≡◌, ℕ, ◌≤◌, Option, Some, None, arith, sym, subst, ap}
use Rattle.sk_spaces.specs.Machine.{Home}
use Rattle.sk_copy_states.specs.Stores.{len_in}
use Rattle.sk_coherence_laws.specs.Directory.{DirectoryView, store_at, LiesInside}

pub lens_on : (d n : DirectoryView) (o : Option Home) → ((t : ℕ) → len_in (store_at d t) ≤ len_in (store_at n t)) → LiesInside d o → LiesInside n o
lens_on d n None lens is = tt
lens_on d n (Some h) lens is = (is.0, omega (arith, is.1, lens h.store))

pub inside_on : (d n : DirectoryView) (o p : Option Home) → p ≡ o → ((t : ℕ) → len_in (store_at d t) ≤ len_in (store_at n t)) → LiesInside d o → LiesInside n p
inside_on d n o p same lens is = subst (λ (x : Option Home). LiesInside n x) (sym same) (lens_on d n o lens is)

pub lens_same : (d n : DirectoryView) → ((t : ℕ) → store_at n t ≡ store_at d t) → (t : ℕ) → len_in (store_at d t) ≤ len_in (store_at n t)
lens_same d n same t = omega (arith, ap len_in (same t))
