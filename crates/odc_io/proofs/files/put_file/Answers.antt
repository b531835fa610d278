use Rattle.std.proofs.Common.{◌∙◌, ap, Some, if◌then◌else◌, string_bytes}
use Rattle.std.specs.Str.{bytes_eq}
use Rattle.odc_io.specs.Files.{file_at}
use Rattle.odc_io.proofs.FileLemmas.{file_at-set, file_at-push}
use Rattle.odc_io.proofs.files.put_file.Goals as goal

pub returns-in-Some-clause-ok : goal.returns-in-Some-clause-ok
returns-in-Some-clause-ok c =
    let files = c.args.files.now.items in
    let path = c.args.path.now in
    λ p. file_at-set files c.in-Some.i (record { path = c.index_mut.result.now.path; bytes = c.in_ok-copy.copy }) path c.in-Some.ensures
    (ap (λ (z : _). string_bytes z.path) c.index_mut.ensures.value ∙ c.in-Some.ensures.2 c.index_mut.result.now) p
    ∙ ap (λ z. if bytes_eq p path then Some z else file_at files p) c.in_ok-copy.ensures.items

pub returns-in_ok-push-in-None-clause-ok : goal.returns-in_ok-push-in-None-clause-ok
returns-in_ok-push-in-None-clause-ok c =
    let files = c.args.files.now.items in
    let path = c.args.path.now in
    λ p. ap (λ z. file_at z p) c.in_ok-push-in-None.ensures.items
    ∙ file_at-push files (record { path = c.in_ok-path-in-None.path; bytes = c.in_ok-copy.copy }) path c.in-None.ensures c.in_ok-path-in-None.ensures.ok p
    ∙ ap (λ z. if bytes_eq p path then Some z else file_at files p) c.in_ok-copy.ensures.items
