-- The first bytes of a field, as many as there is room for.
use Rattle.std.specs.Prelude.{◌≡◌, ℕ, ◌<◌, true, false, List, length, take}
use Rattle.sk_data.specs.declared.kept.Kept.{Kept}

-- how many bytes there is room for
abbrev pub room_of : Kept → ℕ
room_of kept = length kept.room.items

-- these bytes were taken: all of them are kept, or they are more than there is room for
pub record Keeps (kept : Kept) (bytes : List ℕ) : Type 0 where
  pub short : kept.long ≡ false → take kept.used kept.room.items ≡ bytes
  pub long : kept.long ≡ true → length kept.room.items < length bytes
