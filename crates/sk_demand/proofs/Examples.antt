-- Worked examples of demand, by evaluation.
use Rattle.std.proofs.Common.{◌≡◌, ℕ, true, false, List, [], ◌∷◌, map, pos, refl}
use Rattle.sk_demand.proofs.Fixtures.{object, mapped, scanned}
use Rattle.sk_demand.specs.Demand.{Demand, VersionTile, demands_of}
use Rattle.sk_world.specs.Events.{Event, Made, Read, Poked, Left, Dumped}

abbrev vector : (container cells : ℕ) → Event
vector container cells = Made container (cells ∷ []) (pos 0)

abbrev at : (version tile : ℕ) → VersionTile
at version tile = record { version = version; tile = tile }

abbrev nothing : Demand
nothing = record { flushes = false; tiles = []; keeps = false; copies = false }

abbrev demanding : List VersionTile → Demand
demanding tiles = record nothing { tiles = tiles }

-- A vector is mapped into another one, then one of its elements is written: the write goes to a copy, since the call has not
-- been computed. It is computed where its result is read, on the cells as they were.
pub write-after-map : demands_of object 1024 1024 (vector 0 4 ∷ vector 1 4 ∷ mapped 1 0 ∷ Poked 0 0 (pos 9) ∷ Read 1 0 ∷ Read 0 0 ∷ [])
    ≡ nothing ∷ nothing ∷ nothing ∷ record nothing { copies = true } ∷ demanding (at 2 0 ∷ []) ∷ nothing ∷ []
write-after-map = refl

-- once the result was read, a write stays where it is
pub write-after-read : demands_of object 1024 1024 (vector 0 4 ∷ vector 1 4 ∷ mapped 1 0 ∷ Read 1 0 ∷ Poked 0 0 (pos 9) ∷ [])
    ≡ nothing ∷ nothing ∷ nothing ∷ demanding (at 2 0 ∷ []) ∷ nothing ∷ []
write-after-read = refl

-- Three Maps of a vector of 10 elements into itself, by tiles of 4, and a read of element 5: tile 1 of each, in the order of
-- recording. A read of element 6 then demands nothing more.
pub chain-read : demands_of object 4 1024 (vector 0 10 ∷ mapped 0 0 ∷ mapped 0 0 ∷ mapped 0 0 ∷ Read 0 5 ∷ Read 0 6 ∷ [])
    ≡ nothing ∷ nothing ∷ nothing ∷ nothing ∷ demanding (at 1 1 ∷ at 2 1 ∷ at 3 1 ∷ []) ∷ nothing ∷ []
chain-read = refl

-- where a dump is wanted instead, every tile of each
pub chain-dumped : map (λ (demand : Demand). demand.tiles) (demands_of object 4 1024 (vector 0 10 ∷ mapped 0 0 ∷ mapped 0 0 ∷ mapped 0 0 ∷ Dumped ∷ []))
    ≡ [] ∷ [] ∷ [] ∷ [] ∷ (at 1 0 ∷ at 2 0 ∷ at 3 0 ∷ at 1 1 ∷ at 2 1 ∷ at 3 1 ∷ at 1 2 ∷ at 2 2 ∷ at 3 2 ∷ []) ∷ []
chain-dumped = refl

-- of two Maps into one result only the second one is needed
pub overwritten : demands_of object 1024 1024 (vector 0 4 ∷ vector 1 4 ∷ vector 2 4 ∷ mapped 2 0 ∷ mapped 2 1 ∷ Read 2 0 ∷ [])
    ≡ nothing ∷ nothing ∷ nothing ∷ nothing ∷ nothing ∷ demanding (at 4 0 ∷ []) ∷ []
overwritten = refl

-- At most two recorded versions that are kept and not complete: the third Map has a flush in front, which computes both.
pub flushed : demands_of object 1024 2
    (vector 0 4 ∷ vector 1 4 ∷ vector 2 4 ∷ vector 3 4 ∷ mapped 1 0 ∷ mapped 2 0 ∷ mapped 3 0 ∷ Read 3 0 ∷ [])
    ≡ nothing ∷ nothing ∷ nothing ∷ nothing ∷ nothing ∷ nothing
    ∷ record nothing { flushes = true; tiles = at 4 0 ∷ at 5 0 ∷ [] } ∷ demanding (at 6 0 ∷ []) ∷ []
flushed = refl

-- without cells there is nothing to compute: a version is complete when it is recorded, and takes no place among the two
pub no-cells : map (λ (demand : Demand). demand.flushes) (demands_of object 1024 1 (vector 0 0 ∷ mapped 0 0 ∷ mapped 0 0 ∷ Dumped ∷ []))
    ≡ false ∷ false ∷ false ∷ false ∷ []
no-cells = refl

-- A Scan writes its result's vector anew, also where a Map that it uses was the last one to read that; into its own operand it
-- makes a new version.
pub scans : map (λ (demand : Demand). demand.keeps) (demands_of object 1024 1024
    (vector 0 4 ∷ vector 1 4 ∷ scanned 1 0 ∷ scanned 1 0 ∷ scanned 0 0 ∷ mapped 1 0 ∷ scanned 0 1 ∷ []))
    ≡ false ∷ false ∷ true ∷ true ∷ false ∷ false ∷ true ∷ []
scans = refl

-- a Map that has still to be computed keeps its operand from being written anew
pub scan-beside-map : map (λ (demand : Demand). demand.keeps) (demands_of object 1024 1024
    (vector 0 4 ∷ vector 1 4 ∷ vector 2 4 ∷ mapped 1 0 ∷ scanned 0 2 ∷ []))
    ≡ false ∷ false ∷ false ∷ false ∷ false ∷ []
scan-beside-map = refl

-- A container that went out of scope is kept while a Map has still to read it, and its call is computed with that Map's.
pub left-input : map (λ (demand : Demand). demand.tiles) (demands_of object 1024 1024
    (vector 0 4 ∷ vector 1 4 ∷ mapped 1 0 ∷ mapped 0 1 ∷ Left 1 ∷ Read 0 0 ∷ []))
    ≡ [] ∷ [] ∷ [] ∷ [] ∷ [] ∷ (at 2 0 ∷ at 3 0 ∷ []) ∷ []
left-input = refl
