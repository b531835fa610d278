use Rattle.odc_small.proofs.BlockLemmas.{end_found, end_none_tabs, end_none_brace}
use Rattle.odc_small.proofs.lines.end_at.Goals as goal

pub returns-in_default : goal.returns-in_default
returns-in_default c = end_none_tabs c.args.depth c.args.bytes.now c.in_default.ensures

pub returns-in_default-strip : goal.returns-in_default-strip
returns-in_default-strip c = end_none_brace c.args.depth c.args.bytes.now c.in-Some.rest.now c.in-Some.ensures c.in_default-strip.ensures

pub returns : goal.returns
returns c = end_found c.args.depth c.args.bytes.now c.in-Some.rest.now c.in-Some-strip.rest.now c.in-Some.ensures c.in-Some-strip.ensures
