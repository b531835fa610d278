use Rattle.std.proofs.Common.{◌≤◌, ◌<◌, refl, inr, subst, length, arith, ℕ}
use Rattle.std.specs.declared.vec.Vec.{Vec}
use Rattle.std.specs.declared.alloc.Global.{Global}
use Rattle.std.specs.Prelude.{Option}
use Rattle.odc_io.specs.Trees.{ReadsFront}
use Rattle.odc_tool.specs.Headline.{file_limit}
use Rattle.odc_tool.proofs.Asking.{broken_missing, broken_long, is_read, file_refused, file_refused_cause, file_read, file_cause}
use Rattle.odc_tool.proofs.run.run_content.Goals as goal

pub returns-in_default-clause-run : goal.returns-in_default-clause-run
returns-in_default-clause-run g c = λ file reads.
    let here = subst (λ (v : Option (Vec ℕ Global)). ReadsFront file file_limit v) c.in_default.is reads in
    file_refused file c.args.steps c.tell_broken.result _ _ (broken_missing file here) c.tell_broken.ensures.line refl refl

pub returns-in_default-clause-cause : goal.returns-in_default-clause-cause
returns-in_default-clause-cause g c = λ file reads.
    let here = subst (λ (v : Option (Vec ℕ Global)). ReadsFront file file_limit v) c.in_default.is reads in
    file_refused_cause file c.args.steps _ _ _ c.tell_broken.result (broken_missing file here) c.tell_broken.ensures.cause (λ rose. inr rose)

pub returns-then-len-gt-FILE_LIMIT-clause-run : goal.returns-then-len-gt-FILE_LIMIT-clause-run
returns-then-len-gt-FILE_LIMIT-clause-run g c = λ file reads.
    let here = subst (λ (v : Option (Vec ℕ Global)). ReadsFront file file_limit v) c.in-Some.is reads in
    let long : file_limit < length c.in-Some.bytes.items = omega (arith, c.len.ensures) in
    file_refused file c.args.steps c.tell_broken-then-len-gt-FILE_LIMIT.result _ _ (broken_long file c.in-Some.bytes here long) c.tell_broken-then-len-gt-FILE_LIMIT.ensures.line refl refl

pub returns-then-len-gt-FILE_LIMIT-clause-cause : goal.returns-then-len-gt-FILE_LIMIT-clause-cause
returns-then-len-gt-FILE_LIMIT-clause-cause g c = λ file reads.
    let here = subst (λ (v : Option (Vec ℕ Global)). ReadsFront file file_limit v) c.in-Some.is reads in
    let long : file_limit < length c.in-Some.bytes.items = omega (arith, c.len.ensures) in
    file_refused_cause file c.args.steps _ _ _ c.tell_broken-then-len-gt-FILE_LIMIT.result (broken_long file c.in-Some.bytes here long) c.tell_broken-then-len-gt-FILE_LIMIT.ensures.cause (λ rose. inr rose)

pub returns-clause-run : goal.returns-clause-run
returns-clause-run g c = λ file reads.
    let here = subst (λ (v : Option (Vec ℕ Global)). ReadsFront file file_limit v) c.in-Some.is reads in
    let short : length c.in-Some.bytes.items ≤ file_limit = omega (arith, c.len.ensures) in
    file_read file c.in-Some.bytes.items c.deref.result.now c.args.steps c.run_bytes.result _ _ c.deref.ensures.value (is_read file c.in-Some.bytes here short) c.run_bytes.ensures.run

pub returns-clause-cause : goal.returns-clause-cause
returns-clause-cause g c = λ file reads.
    let here = subst (λ (v : Option (Vec ℕ Global)). ReadsFront file file_limit v) c.in-Some.is reads in
    let short : length c.in-Some.bytes.items ≤ file_limit = omega (arith, c.len.ensures) in
    file_cause file c.in-Some.bytes.items c.deref.result.now c.args.steps _ _ c.run_bytes.result c.deref.ensures.value (is_read file c.in-Some.bytes here short) c.run_bytes.ensures.cause
