-- A store whose cells are all to be written anew.
use Rattle.std.specs.Prelude.{◌≡◌, ℕ, ◌+◌}
use Rattle.sk_spaces.specs.declared.step.Step.TheVariants.{Stale}
use Rattle.sk_spaces.specs.Spaces.{OnlyNotes}
use Rattle.sk_copy_states.specs.Copies.{StalesAll}
use Rattle.sk_copy_states.specs.Stores.{RebindsOne, len_in}
use Rattle.sk_messages.specs.Messages.{Spoils}
use Rattle.sk_coherence_laws.specs.Directory.{DirectoryView, copy_at, store_at}

-- every copy of store s is stale at each of its indices, and messages over it are spoilt; every other copy, and every cell, is
-- as before; one step is noted
pub record Rebinds (old new : DirectoryView) (s : ℕ) : Type 0 where
  pub states : StalesAll (copy_at old) (copy_at new) s 0 (len_in (store_at old s))
  pub stores : RebindsOne old.stores new.stores s
  pub owed : new.owed + 1 ≡ old.owed
  pub ready : new.ready + 1 ≡ old.ready
  pub next : new.next ≡ old.next
  pub named : new.named ≡ old.named
  pub messages : Spoils old.messages new.messages s 0 (len_in (store_at old s))
  pub aside : new.aside ≡ old.aside
  pub spaces : OnlyNotes old.spaces new.spaces (Stale s 0 (len_in (store_at old s)))
