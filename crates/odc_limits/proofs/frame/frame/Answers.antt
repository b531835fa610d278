use Rattle.std.proofs.Common.{◌+◌, arith}
use Rattle.odc_program.specs.Typing.Frames.{variable_bytes, node_bytes, stmts_weight}
use Rattle.odc_program.specs.Views.StmtView.{stmts}
use Rattle.odc_limits.proofs.Frames.{held, past, within}
use Rattle.odc_limits.proofs.frame.frame.Goals as goal

pub returns-then-size-gt-FRAME_LIMIT : goal.returns-then-size-gt-FRAME_LIMIT
returns-then-size-gt-FRAME_LIMIT c = λ env p types h. past (256 + (variable_bytes env p.locals + stmts_weight (node_bytes env) 128 (stmts c.args.body.now))) c.saturating_add-size.result (omega (
  arith,
  c.saturating_add-size.ensures,
  c.saturating_add.ensures,
  c.saturating_add-2.ensures,
  c.saturating_add-3.ensures,
  c.variables_size.ensures,
  c.variables_size-2.ensures,
  c.variables_size-3.ensures,
  c.weigh_stmts.ensures,
  held env c.args.rows.now types p c.args.variables.now (stmts c.args.body.now) h,
)) c.if-size-gt-FRAME_LIMIT.true

pub returns-else-size-gt-FRAME_LIMIT : goal.returns-else-size-gt-FRAME_LIMIT
returns-else-size-gt-FRAME_LIMIT c = λ env p types h. within (256 + (variable_bytes env p.locals + stmts_weight (node_bytes env) 128 (stmts c.args.body.now))) c.saturating_add-size.result (omega (
  arith,
  c.saturating_add-size.ensures,
  c.saturating_add.ensures,
  c.saturating_add-2.ensures,
  c.saturating_add-3.ensures,
  c.variables_size.ensures,
  c.variables_size-2.ensures,
  c.variables_size-3.ensures,
  c.weigh_stmts.ensures,
  held env c.args.rows.now types p c.args.variables.now (stmts c.args.body.now) h,
)) c.if-size-gt-FRAME_LIMIT.false
