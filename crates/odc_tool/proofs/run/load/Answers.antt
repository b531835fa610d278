use Rattle.std.proofs.Common.{ap, ◌∙◌, List, ℕ, map}
use Rattle.rv_table.specs.Run.{Range, Site, Image}
use Rattle.rv_sites.specs.Sections.{Listing, listing}
use Rattle.rv_sites.specs.Seen.{range_seen}
use Rattle.rv_sites.specs.declared.image.Range.{Range as Seen}
use Rattle.rv_machine.specs.Machine.{loaded_from}
use Rattle.odc_tool.proofs.run.load.Goals as goal

abbrev image : List Range → ℕ → List Site → List ℕ → Image
image ranges entry sites calls = record { ranges = ranges; entry = entry; sites = sites; calls = calls }

pub returns : goal.returns
returns c =
    let view = c.args.view.now in
    let lists = c.in_ok-paths.ensures in
    let paths = ap (λ (t : Listing). t.paths) lists in
    let checks = ap (λ (t : Listing). t.checks) lists in
    let calls = ap (λ (t : Listing). t.calls) lists in
    let found = c.in_ok-paths.field-0 in
    let ranges = c.in_ok-ranges.ensures.ranges ∙ ap (λ (rs : List Seen). map range_seen rs) c.deref.ensures.0 in
    let seen = map range_seen view.ranges.items in
    let e = view.entry in
    let same =
    ap (λ (r : List Range). image r e found.checks.items found.calls.items) ranges ∙ ap (λ (s : List Site). image seen e s found.calls.items) checks
    ∙ ap (λ (k : List ℕ). image seen e (listing view.sites.sites.now view.sites.calls.now).checks k) calls in
    record { machine = c.in_ok-machine.ensures ∙ ap loaded_from same; paths = paths }
