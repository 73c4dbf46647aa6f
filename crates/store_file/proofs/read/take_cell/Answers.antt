use Rattle.std.proofs.Common.{◌≡◌, true, false, List, ◌∙◌, ap, sym}
use Rattle.store_file.specs.declared.cell.RunCell.{RunCell}
use Rattle.store_file.specs.Order.{is_behind}
use Rattle.store_file.specs.Run.{last_of, cells}
use Rattle.store_file.proofs.Judged.{cut_there, refused_there, misplaced_there, one_there}
use Rattle.store_file.proofs.read.take_cell.Goals as goal

pub returns-in_default : goal.returns-in_default
returns-in_default c = λ more. cut_there c.args.total more c.args.earlier.now c.args.bytes.now c.in_default.ensures.gives

pub returns-in_default-2 : goal.returns-in_default-2
returns-in_default-2 c = λ more.
    refused_there c.args.total more c.args.earlier.now c.args.bytes.now _ c.in_ok-cell.field-0 c.in-Some.ensures.gives c.in_ok-cell.ensures c.in_default-2.is

pub returns-then-not-is_behind : goal.returns-then-not-is_behind
returns-then-not-is_behind c = λ more.
    let no : is_behind (last_of c.args.earlier.now) c.in-Some-2.cell ≡ false = cc in
    misplaced_there c.args.total more c.args.earlier.now c.args.bytes.now _ c.in_ok-cell.field-0 c.in-Some-2.cell c.in-Some.ensures.gives c.in_ok-cell.ensures c.in-Some-2.is no

pub returns : goal.returns
returns c =
    let yes : is_behind (last_of c.args.earlier.now) c.in-Some-2.cell ≡ true = cc in (
      c.in-Some.ensures.shorter,
      λ more.
          one_there c.args.total more c.args.earlier.now c.args.bytes.now _ c.in_ok-cell.field-0 c.in-Some-2.cell c.in-Some.ensures.gives c.in_ok-cell.ensures c.in-Some-2.is yes
          ∙ ap (λ (es : List RunCell). cells c.args.total more es c.in-Some.rest.now) (sym c.in_ok-push.ensures.ok),
    )
