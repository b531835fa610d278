use Rattle.std.proofs.Common.{is_ok, refl, ◌∙◌, ap, ◌+◌, [], ◌∷◌, ◌++◌, length}
use Rattle.std.proofs.ResultArms.{chosen}
use Rattle.odc_syntax.specs.declared.token.Token.{Token}
use Rattle.odc_syntax.specs.lexical.Wording.{word_of}
use Rattle.odc_lex.specs.State.{ending_behind}
use Rattle.odc_lex.proofs.StateLemmas.{token_total}
use Rattle.odc_lex.proofs.state.State.pass_token.Goals as goal

pub returns : goal.returns
returns c =
    let old = c.args.self.now in
    let t : Token = record { kind = c.args.kind; word = word_of c.args.kind c.args.bytes.now; at = old.at; from = old.from; to = old.from + length c.args.bytes.now } in
    let pushed = chosen _ _ _ _ c.push.ensures.items (ap is_ok c.in_ok-push.was) in
    let written = c.in_ok-write_before_token.ensures in
    record {
      at = c.behind-self.ensures;
      from = refl;
      number = c.is_number-self.ensures;
      tokens = token_total old
          (record {
            tokens = c.push.new.self;
            «open» = c.open_or_close.new.open;
            ending = c.ending_behind-self.result;
            at = c.behind-self.result;
            from = old.from + length c.args.bytes.now;
            behind_number = c.is_number-self.result;
          })
          c.args.kind c.args.bytes.now
          (pushed ∙ (λ i. written i ++ record { kind = c.args.kind; word = c.word_of-word.ensures i; at = old.at; from = old.from; to = old.from + length c.args.bytes.now } ∷ []))
          c.in_ok-open_or_close.ensures
          (c.ending_behind-self.ensures ∙ ap (ending_behind c.args.kind) c.as_slice.ensures.value)
          c.behind-self.ensures
          refl;
    }
