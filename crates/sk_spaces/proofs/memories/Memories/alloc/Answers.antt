use Rattle.std.proofs.Common.{◌≡◌, ℕ, ◌+◌, ◌-◌, ◌<◌, ◌≤◌, ◌^◌, length, slice_index, arith, rules, sym, ap, subst, ◌∙◌, refl}
use Rattle.sk_spaces.specs.Blocks.{BlockView, IsWhole}
use Rattle.sk_spaces.specs.Memories.{MemoriesView, used_of, LacksRoom}
use Rattle.sk_spaces.proofs.RoomLemmas.{fits_in, count-fits, sound-alloc}
use Rattle.sk_spaces.proofs.memories.Memories.alloc.Goals as goal

pub take_room-requires-clause-fits : goal.take_room-requires-clause-fits
take_room-requires-clause-fits c =
    let capacity : c.self.inside.capacity < 2 ^ 32 = search rules in
    let placed : c.args.space ≤ length c.self.inside.used.items = search rules in
    count-fits _ c.self.inside.used.items c.args.space c.len-len.result c.self.invariant.0
    (subst (λ (m : MemoriesView). LacksRoom m c.args.space c.len-len.result → ⊥) (sym c.self.view_is)
    (c.requires.room c.len-len.result c.len-len.ensures))
    placed capacity

pub invariant_of-self-2 : goal.invariant_of-self-2
invariant_of-self-2 c =
    let n : MemoriesView = record { blocks = c.self.inside.blocks.entries; next = c.self.inside.next; ranks = c.self.inside.ranks; capacity = c.self.inside.capacity } in
    let m : MemoriesView = record { blocks = c.insert.new.blocks.entries; next = c.self.inside.next + 1; ranks = c.self.inside.ranks; capacity = c.self.inside.capacity } in
    let lacks : LacksRoom n c.args.space c.len-len.result → ⊥ = subst (λ (m : MemoriesView). LacksRoom m c.args.space c.len-len.result → ⊥) (sym c.self.view_is) (c.requires.room c.len-len.result c.len-len.ensures) in
    let placed : c.args.space ≤ length c.self.inside.used.items = search rules in
    let block : BlockView = record { store = c.args.store; space = c.args.space; lo = c.args.range.lo; hi = c.args.range.hi; cells = c.in_ok-cells.cells.items } in
    let cells : length c.in_ok-cells.cells.items ≡ c.len-len.result = search rules in
    let len : c.len-len.result ≡ c.args.range.hi - c.args.range.lo = omega (arith, c.len-len.ensures) in (
      sound-alloc n m c.self.inside.used.items c.take_room.new.used.items block c.self.invariant.0 refl refl
          (subst (λ b. Rattle.sk_spaces.specs.Blocks.ChangesBlock n.blocks m.blocks n.next (Rattle.std.proofs.Common.Some b)) c.new.ensures c.in_ok-insert.ensures.added)
          (record { ordered = omega (arith, c.len-len.ensures); cells = omega (arith, cells, c.len-len.ensures) })
          placed
          (subst (λ b. (space : ℕ) → used_of m space ≡ used_of n space + Rattle.sk_spaces.specs.Blocks.len_in space b) c.new.ensures c.in_ok-insert.ensures.used)
          c.take_room.ensures.len
          (rw (← len) c.take_room.ensures.taken)
          (λ some. rw (← len) (fits_in n c.args.space c.len-len.result lacks some)),
      c.take_room.ensures.len ∙ c.self.invariant.1,
    )
