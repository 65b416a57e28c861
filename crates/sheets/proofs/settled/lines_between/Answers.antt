-- `sheets::settled::lines_between` meets its contract: the squares are filled from the lists, and their lines are those of the lists.
use Rattle.sheets.proofs.SheetLaws.{Squares, lines_fit, lines_written}
use Rattle.sheets.proofs.settled.lines_between.Goals as goal

pub pair_lines-requires-clause-growers_bound : goal.pair_lines-requires-clause-growers_bound
pair_lines-requires-clause-growers_bound c = (lines_fit c.requires.0.settles _ _ _ _ _ _
    ((let h0 : Squares c.args.ticket.now c.args.settlement.now
    c.square.result c.square-2.result
    c.square-3.result c.square-4.result c.square-5.result
    c.square-6.result = record {
      tariff_hours_in = c.square.ensures;
      tariff_gain_in = c.square-2.ensures;
      tariff_pay_in = c.square-3.ensures;
      free_deal_hours_in = c.square-4.ensures;
      joint_gain_in = c.square-5.ensures;
      pay_in = c.square-6.ensures;
    } in h0)) _ _ _ c.growers.ensures.0 c.pilots.ensures.0
    c.requires.1).0

pub pair_lines-requires-clause-printable : goal.pair_lines-requires-clause-printable
pair_lines-requires-clause-printable c = (lines_fit c.requires.0.settles _ _ _ _ _ _
    ((let h0 : Squares c.args.ticket.now c.args.settlement.now
    c.square.result c.square-2.result
    c.square-3.result c.square-4.result c.square-5.result
    c.square-6.result = record {
      tariff_hours_in = c.square.ensures;
      tariff_gain_in = c.square-2.ensures;
      tariff_pay_in = c.square-3.ensures;
      free_deal_hours_in = c.square-4.ensures;
      joint_gain_in = c.square-5.ensures;
      pay_in = c.square-6.ensures;
    } in h0)) _ _ _ c.growers.ensures.0 c.pilots.ensures.0
    c.requires.1).1

pub returns : goal.returns
returns c = lines_written c.requires.0.settles _ _ _ _ _
    _ ((let h0 : Squares c.args.ticket.now c.args.settlement.now
    c.square.result c.square-2.result
    c.square-3.result c.square-4.result c.square-5.result
    c.square-6.result = record {
      tariff_hours_in = c.square.ensures;
      tariff_gain_in = c.square-2.ensures;
      tariff_pay_in = c.square-3.ensures;
      free_deal_hours_in = c.square-4.ensures;
      joint_gain_in = c.square-5.ensures;
      pay_in = c.square-6.ensures;
    } in h0)) _ _ c.growers.ensures.0 c.pilots.ensures.0 c.pair_lines.ensures
