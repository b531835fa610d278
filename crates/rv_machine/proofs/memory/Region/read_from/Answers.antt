-- Each piece comes behind those before it.
use Rattle.std.proofs.Common.{◌≡◌, ◌-◌, ◌≤◌, [], Bool, false, arith, ap, ◌∙◌, sym, subst, refl}
use Rattle.rv_machine.specs.declared.memory.Region.{Region}
use Rattle.rv_machine.proofs.Pieces.{Reading, took_none, overwritten_none, reading_more}
use Rattle.rv_machine.proofs.memory.Region.read_from.Goals as goal

pub loop-count-init : goal.loop-count-init
loop-count-init g c =
    let start : c.self.inside.start ≡ c.args.self.now.start = ap (λ (r : Region). r.start) c.self.view_is in
    let low : c.args.self.now.start ≤ c.args.address = c.requires.start in
    record {
      reading = record {
        got = [];
        fits = omega arith;
        counts = refl;
        area = sym (overwritten_none c.args.self.now c.args.address);
        took = took_none (g.S.Source.rest c.args.input.now);
        stays = λ h. (refl, h);
        over = c.requires.over;
      };
      place = omega arith;
      room = c.requires.end;
      counted = omega arith;
      shape = refl;
    }

pub loop-count-preserved : goal.loop-count-preserved
loop-count-preserved g c =
    let ended : c.loop-count.ended ≡ false = c.if-not-ended.true in
    let r = c.loop-count.invariant in
    let R : Bool → Type 0 = λ b. Reading c.args.address c.args.size c.args.self.now c.loop-count.self (g.S.Source.rest c.args.input.now) (g.S.Source.rest c.loop-count.input) c.args.ended.now b c.loop-count.count in
    record {
      reading = reading_more c.args.address c.args.size c.args.self.now c.loop-count.self (g.S.Source.rest c.args.input.now) (g.S.Source.rest c.loop-count.input) (g.S.Source.rest c.read_piece.new.input)
          c.args.ended.now c.loop-count.count (subst R ended r.reading) c.read_piece.new.piece c.in_ok-taken.taken (c.args.address - c.self.inside.start) c.overwrite_at.new.self
          c.in_ok-taken.ensures.within.1 (let b = c.in_ok-taken.ensures.within.0 in omega arith) c.in_ok-taken.ensures.bytes c.in_ok-taken.ensures.taken c.in_ok-taken.ensures.end
          c.requires.start c.requires.end r.place c.overwrite_at.ensures.is;
      place = r.place;
      room = r.room;
      counted = omega (arith, r.counted, c.read_piece.ensures.counted);
      shape = c.overwrite_at.ensures.shape ∙ r.shape;
    }
