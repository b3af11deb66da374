-- `site_first::call::append` meets its contract. Assumes nothing.
use borrow.Author.Rules.{rules}
use mathlib.Core.Path.{refl}
use lib.ListN.{drop}
use Rattle.files.specs.Word.{words}
use Rattle.files.specs.Groups.{loaded}
use Rattle.files.proofs.Groups.{groups_ranges, loaded_checked}
use Rattle.expressions.specs.Labels.{expr_of}
use Rattle.output.proofs.Extending.{past_start}
use Rattle.preparing.proofs.Preparing.{follows, tables}
use Rattle.reporting.proofs.Reports.{ready_blank}
use Rattle.site_first.proofs.FirstCalls.{reply_extends}
use Rattle.site_first.proofs.call.append.Goals as goal

pub report_doors-end-requires : goal.report_doors-end-requires
report_doors-end-requires c =
    let prepared = c.prepare-outside.ensures in
    (record { ready = ready_blank _ _ _ _ prepared.begun prepared.blank; room = search rules }, search rules)

pub close_at-requires : goal.close_at-requires
close_at-requires c =
    let a = c.position_automaton-a.result in
    let is = c.position_automaton-a.ensures in
    let e = expr_of (drop 1 (loaded (words c.args.groups.now) (words c.args.path.now))) in
    let part = words c.args.part.now in
    (search rules, search rules, search rules, past_start _ c.requires.1 (c.report_doors-end.ensures.counts e (follows a e is) (tables part a e _ _ is c.prepare-outside.ensures)))

pub returns : goal.returns
returns c =
    let a = c.position_automaton-a.result in
    let is = c.position_automaton-a.ensures in
    let part = words c.args.part.now in
    let groups = c.args.groups.now in
    let asked = words c.args.path.now in
    let path = loaded (words groups) asked in
    let e = expr_of (drop 1 path) in
    let follow = follows a e is in
    let table = tables part a e _ _ is c.prepare-outside.ensures in
    let read = c.requires.0.read in
    reply_extends part path a read.0.read (loaded_checked _ (groups_ranges groups read.1.0) asked read.1.1.0.read) is
    c.requires.1 c.requires.0.room.holds (c.report_doors-end.ensures.adds e follow table) (c.report_doors-end.ensures.counts e follow table)
    c.close_at.ensures c.site-s.ensures c.word_at.ensures refl
