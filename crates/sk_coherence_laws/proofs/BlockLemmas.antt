-- A block that is there is found among the copies of its store.
use Rattle.std.proofs.Common.{◌≢◌, ℕ, ◌<◌, length, slice_index, Some, ap, ◌∙◌}
use Rattle.sk_copy_states.specs.Copies.{home_in, home_store}
use Rattle.sk_copy_states.specs.Stores.{copies_in}
use Rattle.sk_coherence_laws.specs.Directory.{DirectoryView, copy_at, store_at, IsSound}
use Rattle.sk_coherence_laws.specs.HostBlocks.{HasBlock}

pub none_listed : (d : DirectoryView) (s space lo hi : ℕ) → IsSound d
    → ((k : ℕ) → k < length (copies_in (store_at d s))
    → home_in (copy_at d (slice_index (copies_in (store_at d s)) k)) ≢ Some (record { store = s; space = space; lo = lo; hi = hi }))
    → HasBlock d s space lo hi → ⊥
none_listed d s space lo hi sound none has =
    let c = sound.complete s has.0 (ap home_store has.1) in
    none c.0 c.1 (ap (λ q. home_in (copy_at d q)) c.2 ∙ has.1)
