use Rattle.std.proofs.Common.{◌≡◌, ap, subst, List, length}
use Rattle.odc_text.specs.declared.place.Place.{Place}
use Rattle.odc_syntax.specs.declared.token.Token.{Token}
use Rattle.odc_lookahead.specs.Refused.{FirstRefused, NoneRefused}
use Rattle.odc_parse.specs.File.{refused}
use Rattle.odc_parse.proofs.FileLemmas.{fault_at}
use Rattle.odc_parse.proofs.parse.parse_file.Goals as goal

pub returns-in-Some-clause-no_file : goal.returns-in-Some-clause-no_file
returns-in-Some-clause-no_file c =
    refused c.in-Some.at c.in-Some.code (subst (λ (l : List Token). FirstRefused l 0 (length l) c.in-Some.at c.in-Some.code) c.as_slice.ensures.value c.in-Some.ensures.some) (ap (fault_at c.in-Some.code) c.place_of.ensures)

pub returns-in-None-clause-file : goal.returns-in-None-clause-file
returns-in-None-clause-file c = c.clean_file.ensures.file (subst (λ (l : List Token). NoneRefused l 0 (length l)) c.as_slice.ensures.value c.in-None.ensures.none)

pub returns-in-None-clause-no_file : goal.returns-in-None-clause-no_file
returns-in-None-clause-no_file c = c.clean_file.ensures.no_file (subst (λ (l : List Token). NoneRefused l 0 (length l)) c.as_slice.ensures.value c.in-None.ensures.none)
