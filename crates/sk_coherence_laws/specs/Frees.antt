-- A copy that goes.
use Rattle.std.specs.Prelude.{◌≡◌, ℕ, Some, None}
use Rattle.sk_spaces.specs.declared.step.Step.TheVariants.{Free}
use Rattle.sk_spaces.specs.Memories.{ChangesOne}
use Rattle.sk_spaces.specs.Spaces.{NotesStep}
use Rattle.sk_copy_states.specs.Copies.{ChangesCopy, store_in}
use Rattle.sk_copy_states.specs.Stores.{StoreView, PutsStore, LosesCopy}
use Rattle.sk_coherence_laws.specs.Directory.{DirectoryView, copy_at, store_at}

-- a copy of store s, whose view was st and is now, is gone; nothing else changed
pub record FreesCopy (old new : DirectoryView) (id s : ℕ) (st now : StoreView) : Type 0 where
  pub memories : ChangesOne old.spaces.memories new.spaces.memories id None
  pub copies : ChangesCopy old.copies new.copies id None
  pub home : store_in (copy_at old id) ≡ Some s
  pub store : store_at old s ≡ Some st
  pub stores : PutsStore old.stores new.stores s now
  pub loses : LosesCopy id st now
  pub next : new.next ≡ old.next
  pub owed : new.owed ≡ old.owed
  pub named : new.named ≡ old.named
  pub messages : new.messages ≡ old.messages
  pub aside : new.aside ≡ old.aside
  pub noted : NotesStep old.spaces new.spaces (Free id)

-- the copy is gone, and is not listed any more; nothing else changed
abbrev pub FreesSome : DirectoryView → DirectoryView → ℕ → Type 0
FreesSome old new id = (s : ℕ) × (st : StoreView) × (now : StoreView) × FreesCopy old new id s st now
