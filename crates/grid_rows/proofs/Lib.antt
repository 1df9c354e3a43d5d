pub mod Filled
pub mod Raws
pub mod UnderWay
pub mod Params
pub mod ParamRows
pub mod Pushed
