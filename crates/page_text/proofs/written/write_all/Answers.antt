use Rattle.std.proofs.Common.{ap, arith}
use Rattle.std.proofs.lemmas.List.Sums.{sum_by_more}
use Rattle.page_text.proofs.Placing.{printed_more}
use Rattle.page_text.proofs.written.write_all.Goals as goal

pub loop-item-preserved : goal.loop-item-preserved
loop-item-preserved g c =
    let more = sum_by_more g.T.Written.width c.args.items.now c.loop-item.item-index c.item-item.result c.loop-item-test.true in (
      printed_more g.T.Written.text c.args.items.now c.loop-item.item-index c.args.bytes.now c.loop-item.bytes c.write-at.new.bytes c.loop-item.at c.write-at.result c.item-item.result
          c.loop-item-test.true c.item-item.is c.loop-item.invariant.0 c.write-at.ensures.text,
      omega (arith, more, ap g.T.Written.width c.item-item.is),
    )
