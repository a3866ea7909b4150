use Rattle.sk_data.proofs.Joins.{record_put}
use Rattle.sk_data.proofs.to_text.put_container.Goals as goal

pub returns : goal.returns
returns c =
    rw (
      c.in_ok-push-2.ensures.items,
      c.in_ok-put_behind.ensures,
      c.in_ok-put_joined.ensures,
      c.in_ok-push.ensures.items,
      c.in_ok-extend_from_slice.ensures.items,
      c.as_bytes.ensures,
      c.sizes.ensures.value,
      c.as_slice.ensures,
    )
    (record_put c.args.out.now.items c.args.container.now.name _ c.args.container.now.cells)
