-- stage 3: EF.COM
pub mod EfCom
