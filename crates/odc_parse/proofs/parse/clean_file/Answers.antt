use Rattle.std.proofs.Common.{subst, true, false, List}
use Rattle.odc_syntax.specs.declared.token.Token.{Token}
use Rattle.odc_syntax.specs.View.{decls}
use Rattle.odc_lookahead.specs.Exact.{Exact, Found, one}
use Rattle.odc_lookahead.specs.Read.{refused}
use Rattle.odc_parse.specs.File.{file_of}
use Rattle.odc_parse.specs.Read.{starts_item}
use Rattle.odc_parse.proofs.FileLemmas.{file_is, rest_fault, unread_fault, none_left, some_left}
use Rattle.odc_parse.proofs.parse.clean_file.Goals as goal

pub returns-in-Err-clause-no_file : goal.returns-in-Err-clause-no_file
returns-in-Err-clause-no_file c = λ clean.
    unread_fault c.args.t.now.list.items c.args.t.now.end c.in-Err.stop c.unread.result
    (subst (λ (l : List Token). Exact (one file_of) starts_item 200 l (refused c.in-Err.stop)) c.as_slice.ensures.value c.in-Err.ensures.exact) clean c.unread.ensures

pub returns-then-is_empty-clause-file : goal.returns-then-is_empty-clause-file
returns-then-is_empty-clause-file c = λ clean.
    file_is c.args.t.now.list.items c.in-Ok.read.rest.now c.in-Ok.read.tree.package (decls c.in-Ok.read.tree.decls.items) c.in-Ok.read.height
    (subst (λ (l : List Token). Found (one file_of) starts_item 200 l (c.in-Ok.read.tree.package, decls c.in-Ok.read.tree.decls.items) c.in-Ok.read.height c.in-Ok.read.rest.now) c.as_slice.ensures.value c.in-Ok.ensures.exact)
    (none_left _ _ c.is_empty.ensures c.if-is_empty.true) c.in-Ok.ensures.low clean

pub returns-else-is_empty-clause-no_file : goal.returns-else-is_empty-clause-no_file
returns-else-is_empty-clause-no_file c = λ clean.
    rest_fault c.args.t.now.list.items c.in-Ok.read.rest.now (c.in-Ok.read.tree.package, decls c.in-Ok.read.tree.decls.items) c.in-Ok.read.height c.args.t.now.end c.unread-else-is_empty.result c.discard_decls.result
    (subst (λ (l : List Token). Found (one file_of) starts_item 200 l (c.in-Ok.read.tree.package, decls c.in-Ok.read.tree.decls.items) c.in-Ok.read.height c.in-Ok.read.rest.now) c.as_slice.ensures.value c.in-Ok.ensures.exact)
    (some_left _ _ c.is_empty.ensures c.if-is_empty.false) clean c.discard_decls.ensures c.unread-else-is_empty.ensures
