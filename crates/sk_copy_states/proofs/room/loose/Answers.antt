use Rattle.std.proofs.Common.{◌≡◌, true, rules, sym, ◌∙◌}
use Rattle.std.specs.Cmp.{nat_cmp_total}
use Rattle.std.specs.Map.Iter.{deref_pair}
use Rattle.std.proofs.lemmas.Map.Iter.{btree_map_turn, rest_more}
use Rattle.sk_copy_states.specs.Loose.{is_loose}
use Rattle.sk_copy_states.proofs.LooseLemmas.{list_more, each_more}
use Rattle.sk_copy_states.proofs.room.loose.Goals as goal

pub copies-preserved-in-Continue-1 : goal.copies-preserved-in-Continue-1
copies-preserved-in-Continue-1 c =
    let v = c.copies.invariant in
    let id = c.in-Some.id.now in
    let held = c.in-Some.held.now in
    let turn = btree_map_turn deref_pair c.copies.yielded c.into_iter-id-iterator.result c.copies.id-iterator c.next.new.self c.next.result (c.in-Some.id, c.in-Some.held)
    c.copies.yielded_by c.in-Some.is c.next.ensures.steps nat_cmp_total c.args.copies.now (search rules) (search rules) in
    let is : is_loose c.args.space held ≡ true = sym c.may_go.ensures ∙ c.if-may_go.true in
    record {
      list = list_more c.args.space id held c.copies.ids.items c.push.new.self.items c.copies.id-iterator c.next.new.self c.args.copies.now.entries
          (rest_more deref_pair c.copies.id-iterator c.next.new.self c.next.result (c.in-Some.id, c.in-Some.held) c.in-Some.is c.next.ensures.steps)
          is c.in_ok-push.ensures.items v.list;
      each = each_more c.args.copies.now.entries c.args.space id held c.copies.ids.items c.push.new.self.items turn.1 is c.in_ok-push.ensures.items v.each;
    }
