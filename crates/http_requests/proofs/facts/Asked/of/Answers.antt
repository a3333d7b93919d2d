use Rattle.http_requests.proofs.Joins.{asked-coding, asked-connection, asked-host, asked-length, asked-nothing, asked-six}
use Rattle.http_requests.proofs.facts.Asked.of.Goals as goal

pub returns-in-4 : goal.returns-in-4
returns-in-4 c = asked-host c.args.name.now c.where_same.result c.in-4.is c.where_same.ensures

pub returns-in-6 : goal.returns-in-6
returns-in-6 c = asked-six c.args.name.now c.of_six.result c.in-6.is c.of_six.ensures

pub returns-in-10 : goal.returns-in-10
returns-in-10 c = asked-connection c.args.name.now c.where_same-in-10.result c.in-10.is c.where_same-in-10.ensures

pub returns-in-14 : goal.returns-in-14
returns-in-14 c = asked-length c.args.name.now c.where_same-in-14.result c.in-14.is c.where_same-in-14.ensures

pub returns-in-17 : goal.returns-in-17
returns-in-17 c = asked-coding c.args.name.now c.where_same-in-17.result c.in-17.is c.where_same-in-17.ensures

pub returns-in_default : goal.returns-in_default
returns-in_default c =
    let other = c.in_default.in_default-own.rest in
    asked-nothing c.args.name.now other.0.0.0.0.1 other.0.0.0.1 other.0.0.1 other.0.1 other.1
