use Rattle.odc_lex.proofs.piece.piece.Goals as goal

pub returns-in-White : goal.returns-in-White
returns-in-White c = c.white.ensures c.args.behind_number

pub returns-in-Newline : goal.returns-in-Newline
returns-in-Newline c = c.newline.ensures c.args.behind_number

pub returns-in-LineComment : goal.returns-in-LineComment
returns-in-LineComment c = c.line_comment.ensures c.args.behind_number

pub returns-in-BlockComment : goal.returns-in-BlockComment
returns-in-BlockComment c = c.block_comment.ensures c.args.behind_number

pub returns-in-Number : goal.returns-in-Number
returns-in-Number c = c.number_token.ensures c.args.behind_number

pub returns-in-Rune : goal.returns-in-Rune
returns-in-Rune c = c.rune.ensures c.args.behind_number

pub returns-in-Quoted : goal.returns-in-Quoted
returns-in-Quoted c = c.quoted.ensures c.args.behind_number

pub returns-in-Raw : goal.returns-in-Raw
returns-in-Raw c = c.raw.ensures c.args.behind_number

pub returns-in-Directive : goal.returns-in-Directive
returns-in-Directive c = c.directive.ensures c.args.behind_number

pub returns-in-Sign : goal.returns-in-Sign
returns-in-Sign c = c.sign_token.ensures c.args.behind_number
